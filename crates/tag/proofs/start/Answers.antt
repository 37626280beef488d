use mathlib.Core.Path.{◌≡◌, sym, ap, ap₂, ◌∙◌}
use native.Mathlib.Omega.{arith}
use lib.ListN.{length, take}
use lib.Seq.{length-take-le}
use borrow.Author.Rules.{rules}
use Rattle.std.proofs.lemmas.Result.{err_from_is_err_and}
use Rattle.answers.proofs.Numbers.{some_number}
use Rattle.limits.specs.Limits.{longest_block, limit}
use Rattle.limits.proofs.Limits.{block-most}
use Rattle.orders.specs.declared.Record.{Record}
use Rattle.orders.specs.Record.{sound}
use Rattle.orders.specs.Open.{opened}
use Rattle.orders.proofs.InTurn.{answered-refused, answered-rest}
use Rattle.orders.specs.Append.{append_accepted}
use Rattle.tags.specs.Hmac.{inner_byte, xor_each, inner_key}
use Rattle.tags.proofs.Keys.{xored-front}
use Rattle.tags.specs.Start.{start_call}
use Rattle.tags.proofs.Accepted.{Keyed, keyed}
use Rattle.tags.proofs.Started.{opened-sound}
use Rattle.tag.proofs.start.Goals as goal
use Rattle.tag.proofs.start.Goals.{After-block_bytes, In_ok-key_answer, Start}

-- the entry of the call
abbrev start : In_ok-key_answer → Start
start c = (goal.at.In_ok-key_answer c).Start

-- the call is accepted
passed : (c : In_ok-key_answer) → Keyed (start c).args.w (start c).args.n (length (start c).args.key.now) 0
passed c =
    let a = (start c).args in
    keyed a.w a.n (length a.key.now) 0 (sym c.in_ok-key_answer.ensures)

-- a block fits into the array
pub slice_bounds-block-end : goal.slice_bounds-block-end
slice_bounds-block-end c = let long : length c.xor_each-block.result ≡ longest_block = search rules in
    omega (arith, c.block_bytes.ensures, block-most c.args.w)

-- the piece is the inner block of the key
inner-is : (c : After-block_bytes)
    → take c.block_bytes.result c.xor_each-block.result
    ≡ inner_key c.args.w c.args.n c.args.key.now
unfolding inner_key
inner-is c =
    let a = c.args in
    let block = c.key_block.result in
    let long : length block ≡ longest_block = search rules in
    xored-front a.w inner_byte block long c.block_bytes.ensures c.xor_each-block.ensures
    ∙ ap (xor_each inner_byte) c.key_block.ensures

pub returns-in_err-key_answer : goal.returns-in_err-key_answer
unfolding start_call
returns-in_err-key_answer c = let p = err_from_is_err_and c.from_residual.result c.from_residual.ensures.1 in
    rw (p.1, p.2) (answered-refused _ _ _ c.in_err-key_answer.ensures (some_number c.in_err-key_answer.field-0.0))

pub opened-opened-requires : goal.opened-opened-requires
unfolding start_call limit opened
opened-opened-requires c = ((passed c).word_size, (passed c).digest_length)

pub key_block-requires : goal.key_block-requires
unfolding start_call limit opened
key_block-requires c = let p = passed (goal.at.key_block-requires c).In_ok-key_answer in
    (p.word_size, p.digest_length, p.bytewise, ap (λ (r : Record). r.chain) c.opened-opened.ensures)

pub slice_bounds-accepted-end : goal.slice_bounds-accepted-end
unfolding start_call limit opened
slice_bounds-accepted-end c = sym (length-take-le _ _ (slice_bounds-block-end (goal.at.slice_bounds-accepted-end c).After-block_bytes))

pub accepted-requires : goal.accepted-requires
unfolding start_call limit opened
accepted-requires c = let a = c.args in
    let p = passed (goal.at.accepted-requires c).In_ok-key_answer in
    let size = length-take-le c.block_bytes.result c.xor_each-block.result (slice_bounds-block-end (goal.at.accepted-requires c).After-block_bytes) in (
      ap sound c.opened-opened.ensures ∙ opened-sound a.w a.n p.word_size p.digest_length,
      omega (arith, ap (λ (r : Record). r.total) c.opened-opened.ensures, size, c.block_bytes.ensures, block-most a.w),
    )

pub returns : goal.returns
unfolding start_call limit opened
returns c = let x = (goal.at.returns c).After-block_bytes in
    c.accepted.ensures
    ∙ ap₂ append_accepted x.opened-opened.ensures (inner-is x)
    ∙ answered-rest _ _ _ (sym x.in_ok-key_answer.ensures)

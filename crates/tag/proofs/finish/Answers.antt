-- `tag::finish` meets its contract, by the answer. Assumes nothing.
use mathlib.Core.Path.{◌≡◌, sym, ap, ◌∙◌}
use mathlib.Core.Bool.{true}
use Prim.Native.Nat.{ℕ, ◌+◌, ◌/◌, ◌%◌, ◌≤◌}
use native.Mathlib.Omega.{arith}
use lib.ListN.{length, take}
use lib.Seq.{length-take-le}
use borrow.Author.Rules.{rules}
use Rattle.limits.specs.Limits.{longest_block, longest_digest}
use Rattle.limits.proofs.Limits.{digest-longest}
use Rattle.orders.specs.Record.{sound}
use Rattle.orders.proofs.Sound.{sounds}
use Rattle.tags.specs.Hmac.{tag_of}
use Rattle.tags.specs.KeyAnswer.{tag_bytes}
use Rattle.tags.specs.Finish.{finish_output}
use Rattle.answers.proofs.Output.{refused-by, written-output}
use Rattle.tags.proofs.Accepted.{finish-accepted}
use Rattle.tag.proofs.finish.Goals as goal
use Rattle.tag.proofs.finish.Goals.{In_ok-finish_answer, Start}

-- the entry of the call
abbrev start : In_ok-finish_answer → Start
start c = (goal.at.In_ok-finish_answer c).Start

-- the call is accepted
passed : (c : In_ok-finish_answer)
    → (sound (start c).args.r ≡ true) × ((start c).args.r.n % 8 ≡ 0)
    × (tag_bytes (start c).args.r.n ≤ length (start c).args.output.now)
passed c =
    let a = (start c).args in
    finish-accepted a.r (length a.key.now) (length a.output.now) (sym c.in_ok-finish_answer.ensures)

-- the digest fits into its array
few : (c : In_ok-finish_answer) → (start c).args.r.n ≤ longest_digest 64
few c =
    let r = (start c).args.r in
    let s = sounds r (passed c).0 in
    digest-longest r.w r.n s.word s.digest_length

pub slice_bounds-inner-end : goal.slice_bounds-inner-end
slice_bounds-inner-end c = let long : length c.digest_bytes-inner.result ≡ longest_block = search rules in omega (arith, few (goal.at.slice_bounds-inner-end c).In_ok-finish_answer)

pub returns-in_err-finish_answer : goal.returns-in_err-finish_answer
unfolding finish_output
returns-in_err-finish_answer c = refused-by _ _ _ c.args.output.now _ _ c.in_err-finish_answer.ensures c.from_residual.ensures.1

pub digest_bytes-inner-requires : goal.digest_bytes-inner-requires
unfolding finish_output
digest_bytes-inner-requires c = (passed c).0

pub slice_bounds-tag_of-end : goal.slice_bounds-tag_of-end
unfolding finish_output
slice_bounds-tag_of-end c = let long : length c.digest_bytes-inner.result ≡ longest_block = search rules in
    sym (length-take-le _ _ (omega (arith, few (goal.at.slice_bounds-tag_of-end c).In_ok-finish_answer)))

pub tag_of-requires : goal.tag_of-requires
unfolding finish_output
tag_of-requires c = let p = (goal.at.tag_of-requires c).In_ok-finish_answer in
    let s = sounds (start p).args.r (passed p).0 in
    (s.word, s.digest_length, (passed p).1)

pub write_tag-requires : goal.write_tag-requires
unfolding finish_output
write_tag-requires c = let p = (goal.at.write_tag-requires c).In_ok-finish_answer in
    (omega (arith, few p), (passed p).2)

pub returns : goal.returns
unfolding finish_output
returns c = let p = (goal.at.returns c).In_ok-finish_answer in
    let a = (start p).args in
    let size : a.r.n / 8 ≡ (a.r.n + 7) / 8 = omega (arith, (passed p).1) in
    written-output _ _ _ a.output.now (sym p.in_ok-finish_answer.ensures)
    (c.tag_of.ensures
    ∙ ap (tag_of a.r.w a.r.n a.key.now) (ap (λ (k : ℕ). take k c.digest_bytes-inner.result) size ∙ c.digest_bytes-inner.ensures))
    c.write_tag.ensures

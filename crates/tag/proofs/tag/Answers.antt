-- `tag::tag` meets its contract, by the answer. Assumes nothing.
use mathlib.Core.Path.{sym}
use Prim.Native.Nat.{◌≤◌}
use native.Mathlib.Omega.{arith}
use lib.ListN.{length}
use Rattle.limits.proofs.Limits.{digest-longest}
use Rattle.tags.specs.KeyAnswer.{tag_bytes}
use Rattle.tags.specs.Tag.{tag_output}
use Rattle.answers.proofs.Output.{refused-by, written-output}
use Rattle.tags.proofs.Accepted.{Keyed, tag-accepted}
use Rattle.tag.proofs.tag.Goals as goal
use Rattle.tag.proofs.tag.Goals.{In_ok-answer, Start}

-- the entry of the call
abbrev start : In_ok-answer → Start
start c = (goal.at.In_ok-answer c).Start

-- the call is accepted
passed : (c : In_ok-answer)
    → Keyed (start c).args.w (start c).args.n (length (start c).args.key.now) (length (start c).args.message.now)
    × (tag_bytes (start c).args.n ≤ length (start c).args.output.now)
passed c =
    let a = (start c).args in
    tag-accepted a.w a.n (length a.key.now) (length a.message.now) (length a.output.now) (sym c.in_ok-answer.ensures)

pub returns-in_err-answer : goal.returns-in_err-answer
unfolding tag_output
returns-in_err-answer c = refused-by _ _ _ c.args.output.now _ _ c.in_err-answer.ensures c.from_residual.ensures.1

pub hmac-requires : goal.hmac-requires
unfolding tag_output
hmac-requires c = ((passed c).0.word_size, (passed c).0.digest_length, (passed c).0.bytewise)

pub write_tag-requires : goal.write_tag-requires
unfolding tag_output
write_tag-requires c = let p = (goal.at.write_tag-requires c).In_ok-answer in
    (omega (arith, digest-longest _ _ (passed p).0.word_size (passed p).0.digest_length), (passed p).1)

pub returns : goal.returns
unfolding tag_output
returns c = let p = (goal.at.returns c).In_ok-answer in
    let a = (start p).args in
    written-output _ _ _ a.output.now (sym p.in_ok-answer.ensures)
    c.hmac.ensures c.write_tag.ensures

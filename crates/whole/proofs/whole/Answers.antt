-- `whole::whole` meets its contract, by the answer. Assumes nothing.
use mathlib.Core.Path.{sym, ◌∙◌}
use native.Mathlib.Omega.{arith}
use lib.ListN.{length}
use Rattle.limits.specs.Limits.{limit}
use Rattle.limits.proofs.Limits.{digest-most}
use Rattle.finalization.proofs.MessageChain.{opened-chain, run-chain}
use Rattle.answers.proofs.Output.{refused-by, written-output}
use Rattle.receipts.specs.Whole.{whole_output}
use Rattle.receipts.proofs.WholeAnswers.{Accepted, accepted, receipt-is}
use Rattle.whole.proofs.whole.Goals as goal
use Rattle.whole.proofs.whole.Goals.{In_ok-answer, Start}

-- the entry of the call
abbrev start : In_ok-answer → Start
start c = (goal.at.In_ok-answer c).Start

-- the call is accepted
passed : (c : In_ok-answer)
    → Accepted (start c).args.w (start c).args.n (length (start c).args.message.now) (start c).args.last (start c).args.e (length (start c).args.output.now)
passed c =
    let a = (start c).args in
    accepted a.w a.n (length a.message.now) a.last a.e (length a.output.now) (sym c.in_ok-answer.ensures)

pub returns-in_err-answer : goal.returns-in_err-answer
unfolding whole_output
returns-in_err-answer c = refused-by _ _ _ c.args.output.now _ _ c.in_err-answer.ensures c.from_residual.ensures.1

pub overflow_mul-bits : goal.overflow_mul-bits
unfolding limit whole_output
overflow_mul-bits c = omega (arith, (passed c).within)

pub overflow_add-bits : goal.overflow_add-bits
unfolding limit whole_output
overflow_add-bits c = omega (arith, (passed c).within, (passed c).end.extra)

pub overflow_cast-e : goal.overflow_cast-e
unfolding limit whole_output
overflow_cast-e c = omega (arith, (passed c).end.extra)

pub pad_byte-pad-requires : goal.pad_byte-pad-requires
unfolding limit whole_output
pad_byte-pad-requires c = ((passed c).end.extra, (passed c).end.low)

pub opening-requires : goal.opening-requires
unfolding limit whole_output
opening-requires c = ((passed (goal.at.opening-requires c).In_ok-answer).word_size, digest-most _ _ (passed (goal.at.opening-requires c).In_ok-answer).digest_length)

pub message_chain-t-requires : goal.message_chain-t-requires
unfolding limit whole_output
message_chain-t-requires c = let p = (goal.at.message_chain-t-requires c).In_ok-answer in
    ((passed p).word_size, opened-chain _ _ c.opening.ensures)

pub write_receipt-requires : goal.write_receipt-requires
unfolding limit whole_output
write_receipt-requires c = let p = (goal.at.write_receipt-requires c).In_ok-answer in
    let z = start p in
    let a = passed p in
    (a.word_size, digest-most _ _ a.digest_length, run-chain _ _ (opened-chain _ _ c.opening.ensures) c.message_chain-t.ensures, a.end.room)

pub returns : goal.returns
unfolding limit whole_output
returns c = let p = (goal.at.returns c).In_ok-answer in
    let z = start p in
    written-output _ _ _ z.args.output.now
    (sym p.in_ok-answer.ensures)
    (receipt-is z.args.w z.args.n z.args.message.now z.args.last z.args.e
    (λ i. (p.shared_slice_known-1.given i).fits)
    z.ranges.last.fits
    (passed p).end.extra
    (passed p).end.low
    c.pad_byte-pad.ensures
    (c.message_chain-t.ensures ∙ rw c.opening.ensures))
    c.write_receipt.ensures

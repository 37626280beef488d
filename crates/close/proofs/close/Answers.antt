-- `close::close` meets its contract, by the answer. Assumes nothing.
use mathlib.Core.Path.{sym, ap}
use mathlib.Core.Bool.{Bool}
use mathlib.Core.List.{List}
use Prim.Native.Nat.{◌+◌, ◌*◌}
use native.Mathlib.Omega.{arith}
use lib.ListN.{length}
use Rattle.limits.specs.Limits.{limit}
use Rattle.orders.proofs.Sound.{Sound, sounds}
use Rattle.limits.proofs.Limits.{digest-most}
use Rattle.answers.proofs.Output.{refused-by, written-output}
use Rattle.receipts.specs.Receipt.{receipt}
use Rattle.receipts.specs.Close.{close_output}
use Rattle.receipts.proofs.CloseAnswers.{Accepted, accepted}
use Rattle.close.proofs.close.Goals as goal
use Rattle.close.proofs.close.Goals.{In_ok-answer, Start}

-- the entry of the call
abbrev start : In_ok-answer → Start
start c = (goal.at.In_ok-answer c).Start

-- the call is accepted
passed : (c : In_ok-answer)
    → Accepted (start c).args.r (start c).args.last (start c).args.e (length (start c).args.output.now)
passed c =
    let a = (start c).args in
    accepted a.r a.last a.e (length a.output.now) (sym c.in_ok-answer.ensures)

is-sound : (c : In_ok-answer) → Sound (start c).args.r
is-sound c = sounds (start c).args.r (passed c).sound_record

pub write_receipt-requires : goal.write_receipt-requires
write_receipt-requires c = let p = (goal.at.write_receipt-requires c).In_ok-answer in
    let r = (start p).args.r in
    let s : Sound r = is-sound p in
    (s.word, digest-most r.w r.n s.digest_length, c.final_chain-t.ensures.0, (passed p).end.room)

pub returns : goal.returns
unfolding close_output
returns c = let p = (goal.at.returns c).In_ok-answer in
    let z = start p in
    let r = z.args.r in
    written-output _ _ _ z.args.output.now
    (sym p.in_ok-answer.ensures)
    (ap (λ (d : List Bool). receipt r.w r.n d (8 * r.total + z.args.e)) c.final_chain-t.ensures.1)
    c.write_receipt.ensures

pub returns-in_err-answer : goal.returns-in_err-answer
unfolding close_output
returns-in_err-answer c = refused-by _ _ _ c.args.output.now _ _ c.in_err-answer.ensures c.from_residual.ensures.1

pub overflow_mul-bits : goal.overflow_mul-bits
unfolding limit close_output
overflow_mul-bits c = omega (arith, (is-sound (goal.at.overflow_mul-bits c).In_ok-answer).few)

pub overflow_add-bits : goal.overflow_add-bits
unfolding limit close_output
overflow_add-bits c = omega (arith, (is-sound (goal.at.overflow_add-bits c).In_ok-answer).few, (passed (goal.at.overflow_add-bits c).In_ok-answer).end.extra)

pub overflow_cast-e : goal.overflow_cast-e
unfolding limit close_output
overflow_cast-e c = record { fits = omega (arith, (passed (goal.at.overflow_cast-e c).In_ok-answer).end.extra) }

pub final_chain-t-requires : goal.final_chain-t-requires
unfolding limit close_output
final_chain-t-requires c = ((passed (goal.at.final_chain-t-requires c).In_ok-answer).sound_record, (passed (goal.at.final_chain-t-requires c).In_ok-answer).end.extra, (passed (goal.at.final_chain-t-requires c).In_ok-answer).end.low)

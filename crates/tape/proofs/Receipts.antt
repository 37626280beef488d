-- A corrected order has the receipt of the order that remains, also while a split rewind is unfinished; and the steps of one leave every receipt as it was.
-- Assumes nothing.
use mathlib.Core.Path.{◌≡◌, sym, ap, ◌∙◌}
use mathlib.Core.Bool.{true, cond}
use mathlib.Core.List.{List}
use Prim.Native.Nat.{ℕ}
use lib.ListN.{length}
use Rattle.lsh.specs.WordSize.{is_word_size}
use Rattle.limits.specs.Limits.{is_digest_length}
use Rattle.orders.specs.declared.Record.{Record}
use Rattle.orders.specs.declared.Split.{Split}
use Rattle.orders.specs.Split.{not_begun}
use Rattle.orders.specs.Record.{sound, with_split, record_of}
use Rattle.orders.specs.Arrays.{Arrays}
use Rattle.orders.specs.OneRewind.{after_steps, StepsAccepted}
use Rattle.orders.proofs.OneRewind.{begin-is, x-sound, as_before}
use Rattle.receipts.specs.Whole.{whole_answer, whole_output}
use Rattle.receipts.specs.Close.{close_answer, close_output}
use Rattle.tape.proofs.Messages.{close-answer, close-output}
use Rattle.tape.proofs.AnyMark.{same-answer-unfinished, same-output-unfinished}
use Rattle.tape.specs.Tape.{Lent, Tape}
use Rattle.tape.specs.TapeRecord.{tape_split, tape_record}
use Rattle.tape.specs.Calls.{Call}
use Rattle.tape.specs.First.{First, first_call, first_bytes}
use Rattle.tape.specs.Orders.{order_after, tape_after, Premise}
use Rattle.tape.proofs.First.{new-order}
use Rattle.tape.proofs.Corrected.{tape-is-sound, both-sound, corrected-from}
use Rattle.tape.proofs.OneCall.{SoundTape}

-- Close on the record of a tape, and Whole on its bytes, answer and write the same
tape-receipt : (w n : ℕ) (t : Tape) → is_word_size w ≡ true → is_digest_length w n ≡ true → SoundTape w t → (last e : ℕ) (output : List ℕ)
    → (close_answer (tape_record w n t) last e (length output) ≡ whole_answer w n (length t.bytes) last e (length output))
    × (close_output (tape_record w n t) last e output ≡ whole_output w n t.bytes last e output)
unfolding tape_record
tape-receipt w n t word digest good last e output =
    let m : List ℕ = t.bytes in
    let s : Split = cond t.begun (tape_split w n m t.number) not_begun in
    let sounds : (sound (record_of w n m) ≡ true) × (sound (with_split (record_of w n m) s) ≡ true) = both-sound w n t word digest good in (
      same-answer-unfinished (record_of w n m) s sounds.0 sounds.1 last e (length output)
          ∙ close-answer w n m word last e digest good.bytes.few (length output),
      same-output-unfinished (record_of w n m) s sounds.0 sounds.1 last e output
          ∙ close-output w n m word last e digest good.bytes.few good.bytes.bytes output,
    )

-- the buyer's sentence: after the calls, finished or not
module _ (w n : ℕ) (first : First) (lent : Lent) (cs : List Call) (accepted : (first_call w n first).number ≡ 0) where
  abbrev kept : Record
  kept = (order_after w lent (first_call w n first).next cs).kept

  abbrev bytes : List ℕ
  bytes = (tape_after w lent (first_bytes w n first) cs).bytes

  pub corrected-receipt : Premise w lent (first_bytes w n first) cs → (last e : ℕ) (output : List ℕ)
      → (close_answer kept last e (length output) ≡ whole_answer w n (length bytes) last e (length output))
      × (close_output kept last e output ≡ whole_output w n bytes last e output)
  corrected-receipt h last e output =
      let new = new-order w n first accepted in
      let remains = (corrected-from w n first lent cs accepted h).as_tape.remains in
      let same = tape-receipt w n (tape_after w lent (first_bytes w n first) cs) new.word new.digest (tape-is-sound w n first lent cs accepted) last e output in (
        ap (λ (r : Record). close_answer r last e (length output)) remains ∙ same.0,
        ap (λ (r : Record). close_output r last e output) remains ∙ same.1,
      )

-- for any record: after a begin and hand-backs that are accepted, Close answers and writes what it did before them
pub unfinished-receipt : (r : Record) → Arrays r → (h : List ℕ) (bs : List (List ℕ)) → StepsAccepted r h bs → (last e : ℕ) (output : List ℕ)
    → (close_answer (after_steps r h bs) last e (length output) ≡ close_answer r last e (length output))
    × (close_output (after_steps r h bs) last e output ≡ close_output r last e output)
unfinished-receipt r arrays h bs accepted last e output =
    let x : Record = after_steps r h bs in
    let back : with_split x not_begun ≡ r = as_before r arrays h bs accepted in
    let ok : sound x ≡ true = x-sound r arrays h bs accepted in
    let still : sound (with_split x not_begun) ≡ true = ap sound back ∙ (begin-is r arrays h bs accepted).ok in (
      sym (same-answer-unfinished x not_begun ok still last e (length output)) ∙ ap (λ (q : Record). close_answer q last e (length output)) back,
      sym (same-output-unfinished x not_begun ok still last e output) ∙ ap (λ (q : Record). close_output q last e output) back,
    )

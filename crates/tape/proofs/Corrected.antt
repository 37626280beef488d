-- Demand 3: after every list of Append and Rewind calls and steps of split rewinds on a newly opened record or a newly started tag, with a roll in all of
-- them or in none, refused ones included, the answers with their counts are the tape's, the record is that of the tape, the roll shows the tape's chains,
-- and the blocks run forward are those run backward and the whole blocks that remain. For a newly opened record this is said without the other beginning.
-- Assumes nothing.
use mathlib.Core.Path.{◌≡◌, refl, sym, ap, ◌∙◌, subst}
use mathlib.Core.Bool.{true}
use mathlib.Core.List.{List, [], ◌∷◌}
use Prim.Native.Nat.{ℕ, ◌-◌}
use native.Mathlib.Nat.{zero-div}
use native.Mathlib.Omega.{arith}
use Rattle.lsh.specs.WordSize.{is_word_size, size_of, block_bytes}
use Rattle.limits.specs.Limits.{is_digest_length}
use Rattle.orders.specs.declared.Record.{Record}
use Rattle.orders.specs.Record.{sound, record_of, with_split}
use Rattle.orders.specs.Open.{open_call}
use Rattle.tape.specs.Sequence.{answers}
use Rattle.tape.specs.Tape.{Lent, Tape, plain, whole_blocks}
use Rattle.tape.specs.TapeRecord.{tape_record}
use Rattle.tape.specs.Calls.{Call, Order, order_call, tape_call, HandsBack, forward_count, backward_count}
use Rattle.tape.specs.Orders.{new_order, order_after, order_answers, tape_after, tape_answers, Premise}
use Rattle.tape.specs.Corrected.{Corrected}
use Rattle.tape.specs.ByLength.{all_by_length}
use Rattle.tape.specs.First.{First, Opened, first_call, first_bytes, CorrectedFrom}
use Rattle.tape.proofs.Simulation.{Follows, good-after, calls-follow, counts}
use Rattle.tape.proofs.Records.{sound-is}
use Rattle.tape.proofs.OneCall.{SoundTape, plain-sound, one-call}
use Rattle.tape.proofs.Rolls.{lent-shows}
use Rattle.tape.proofs.Calls.{Shows, on-tape, tape-sound}
use Rattle.tape.proofs.First.{NewOrder, new-order}

-- the record of its bytes is sound, and so is that of the tape
pub both-sound : (w n : ℕ) (t : Tape) → is_word_size w ≡ true → is_digest_length w n ≡ true → SoundTape w t
    → (sound (record_of w n t.bytes) ≡ true) × (sound (tape_record w n t) ≡ true)
both-sound w n t word digest good = (
  sound-is w word n digest t.bytes good.bytes,
  tape-sound w word n digest t.bytes good.bytes t.begun t.number good.up_to,
)

-- what one call on the tape keeps, and how it follows
call-sound : (w : ℕ) (lent : Lent) (t : Tape) (c : Call) → SoundTape w t → SoundTape w (tape_call w lent t c).next
call-sound w lent t c good = (one-call w lent t good c).sound

call_step : (w n : ℕ) → is_word_size w ≡ true → is_digest_length w n ≡ true → (lent : Lent)
    → (o : Order) (t : Tape) (c : Call) → Shows lent w n o t → SoundTape w t → HandsBack w lent t c
    → Follows (Shows lent w n) (order_call lent o c) (tape_call w lent t c)
call_step w n word digest lent o t c shows good h =
    subst (λ (r : Record). Follows (Shows lent w n) (order_call lent (record { kept = r; roll = o.roll }) c) (tape_call w lent t c)) (sym shows.kept)
    (on-tape w word n digest lent t.bytes good.bytes o.roll shows.roll t.begun t.number good.up_to c h)

-- the numbers that the tape gives
tape-by-length : (w : ℕ) (lent : Lent) (cs : List Call) (t : Tape) → SoundTape w t → all_by_length lent (answers (tape_call w lent) t cs) ≡ true
tape-by-length w lent [] t good = refl
tape-by-length w lent (c ∷ cs) t good =
    rw (one-call w lent t good c).by_lengths (tape-by-length w lent cs (tape_call w lent t c).next (call-sound w lent t c good))

module _ (w n : ℕ) (first : First) (lent : Lent) (cs : List Call) (accepted : (first_call w n first).number ≡ 0) where
  abbrev R : Record
  R = (first_call w n first).next

  abbrev S : List ℕ
  S = first_bytes w n first

  new : NewOrder w n (first_call w n first) S
  new = new-order w n first accepted

  new-sound : SoundTape w (plain S)
  new-sound = plain-sound w S new.within

  pub tape-is-sound : SoundTape w (tape_after w lent (first_bytes w n first) cs)
  unfolding tape_after
  tape-is-sound = good-after (tape_call w lent) (SoundTape w) (call-sound w lent) cs (plain S) new-sound

  new-plain : R ≡ tape_record w n (plain S)
  unfolding tape_record plain with_split record_of
  new-plain = new.recorded

  -- from the new order on, whose record is that of the tape
  order-follows : Premise w lent S cs
      → (order_answers w lent R cs ≡ tape_answers w lent S cs) × Shows lent w n (order_after w lent R cs) (tape_after w lent S cs)
  unfolding Premise order_answers order_after new_order tape_answers tape_after plain
  order-follows h =
      calls-follow (tape_call w lent) (SoundTape w) (call-sound w lent) (order_call lent) (HandsBack w lent) (Shows lent w n) (call_step w n new.word new.digest lent)
      cs (new_order w lent R) (plain S) (record { kept = new-plain; roll = lent-shows w n S new.few lent }) new-sound h

  pub corrected-from : Premise w lent (first_bytes w n first) cs → CorrectedFrom w n first lent cs
  unfolding tape_answers tape_after plain
  corrected-from h =
      record {
        as_tape = record { agree = (order-follows h).0; remains = (order-follows h).1.kept; shows = (order-follows h).1.roll };
        blocks =
            rw (order-follows h).0
            (omega (
              arith,
              counts (tape_call w lent) (SoundTape w) (call-sound w lent) forward_count backward_count (λ (t : Tape). whole_blocks w t.bytes) (λ t c good. (one-call w lent t good c).counted) cs
                  (plain S) new-sound,
              new.counted,
            ));
      }

  -- so 3, 8, 9 and 15 are never given, and 16 only with a roll
  pub by_length : Premise w lent (first_bytes w n first) cs → all_by_length lent (order_answers w lent (first_call w n first).next cs) ≡ true
  unfolding tape_answers
  by_length h = ap (all_by_length lent) (corrected-from h).as_tape.agree ∙ tape-by-length w lent cs (plain S) new-sound

-- demand 3: from an accepted Open on, whose count is 0
pub corrected : (w n : ℕ) (lent : Lent) (cs : List Call) → (open_call w n).number ≡ 0 → Premise w lent [] cs → Corrected w n lent cs
unfolding whole_blocks
corrected w n lent cs accepted h =
    let c : CorrectedFrom w n Opened lent cs = corrected-from w n Opened lent cs accepted h in
    let none : (open_call w n).count ≡ 0 = (new-order w n Opened accepted).counted ∙ zero-div (block_bytes (size_of w)) in
    record { as_tape = c.as_tape; blocks = omega (arith, c.blocks, none) }

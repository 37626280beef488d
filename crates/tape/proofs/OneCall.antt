-- What holds of one call on the tape, whatever bytes it brings: no more blocks are handed back than the tape has, its counts are how it moves the whole
-- blocks, and its number is by lengths.
-- Assumes nothing.
use mathlib.Core.Path.{◌≡◌, refl, ap, ◌∙◌}
use mathlib.Core.Bool.{true, not, false≢true}
use mathlib.Core.List.{List, ◌++◌}
use Prim.Native.Nat.{ℕ, ◌+◌, ◌-◌, ◌*◌, ◌/◌, ◌%◌, ◌≤◌, ◌<◌, zero-le}
use native.Mathlib.Nat.{mul-add-div_right, div-eq_of_lt}
use native.Mathlib.Omega.{arith}
use lib.Dec.{eqb, ltb}
use lib.ListN.{length, take, length-append}
use lib.Seq.{length-take-le}
use borrow.Author.Tests.{ltb-false}
use Rattle.lsh.specs.WordSize.{size_of, block_bytes}
use Rattle.lsh.proofs.Tests.{either}
use Rattle.lsh.proofs.Figures.{block-some}
use Rattle.lsh.proofs.Bytes.{bytes-append}
use Rattle.limits.specs.Limits.{limit}
use Rattle.orders.specs.Rewind.{starts_off_block, keeps_too_much}
use Rattle.orders.proofs.Lengths.{OnBlock, on-block, keeps-few, total-is}
use Rattle.orders.specs.HandBack.{no_block}
use Rattle.orders.proofs.HandBacks.{a_block, blocks-on}
use Rattle.checkpoints.proofs.Spacing.{no-fewer-blocks}
use Rattle.tape.specs.Sequence.{Given}
use Rattle.tape.specs.Tape.{Lent, NoRoll, WithRoll, Tape, plain, unfinished, whole_blocks, too_many_blocks, stays, becomes, tape_append, tape_cut, tape_rewind, tape_begin, tape_hand_back, tape_handed, tape_end, tape_abandon}
use Rattle.tape.specs.Calls.{Call, Append, Rewind, Begin, HandBack, End, Abandon, tape_call, forward_count, backward_count}
use Rattle.tape.specs.ByLength.{by_length}
use Rattle.tape.proofs.Records.{WithinLimit, take_within}

-- what holds of the tape throughout
pub record SoundTape (w : ℕ) (t : Tape) : Type 0 where
  pub bytes : WithinLimit t.bytes
  pub up_to : t.number ≤ whole_blocks w t.bytes

pub plain-sound : (w : ℕ) (s : List ℕ) → WithinLimit s → SoundTape w (plain s)
unfolding plain
plain-sound w s short = record { bytes = short; up_to = zero-le }

pub record OneCall (w : ℕ) (lent : Lent) (t : Tape) (c : Call) (g : Given Tape) : Type 0 where
  pub sound : SoundTape w g.next
  pub counted : forward_count c g.answer + whole_blocks w t.bytes ≡ backward_count c g.answer + whole_blocks w g.next.bytes
  pub by_lengths : by_length lent g.answer.number ≡ true

-- 16 only with a roll
full-by-length : (lent : Lent) (blocks : ℕ) → too_many_blocks lent blocks ≡ true → by_length lent 16 ≡ true
unfolding by_length
full-by-length NoRoll blocks full = absurd (false≢true full)
full-by-length (WithRoll size) blocks full = refl

module _ (w : ℕ) (lent : Lent) (t : Tape) (good : SoundTape w t) where
  abbrev s : List ℕ
  s = t.bytes

  abbrev B : ℕ
  B = block_bytes (size_of w)

  -- the count of an Append takes the whole blocks from what they were to what they are
  append-counted : (p : List ℕ) → whole_blocks w (s ++ p) - whole_blocks w s + whole_blocks w s ≡ 0 + whole_blocks w (s ++ p)
  unfolding whole_blocks
  append-counted p = omega (arith, no-fewer-blocks w (length s) (length (s ++ p)) (omega (arith, length-append s p)))

  -- and that of a Rewind, or of the end of a split one, takes them back
  cut-counted : (size keep : ℕ) → OnBlock B (length s) size → (keep ≤ size) × (keep < B)
      → 0 + whole_blocks w s ≡ size / B + whole_blocks w (take (length s - size + keep) s)
  unfolding whole_blocks
  cut-counted size keep on few =
      let m : ℕ = (length s - size) / B in
      let left : length (take (length s - size + keep) s) ≡ m * B + keep =
      omega (arith, length-take-le (length s - size + keep) s (omega (arith, few.0, on.fits)), total-is B (length s) size on, on.fits) in
      omega (
        arith,
        div-eq_of_lt few.1,
        ap (λ (k : ℕ). k / B) (total-is B (length s) size on) ∙ mul-add-div_right (block-some w) m size,
        ap (λ (k : ℕ). k / B) left ∙ mul-add-div_right (block-some w) m keep,
      )

  -- a refused call, and what an accepted one leaves
  refuse : (c : Call) (number : ℕ) → by_length lent number ≡ true
      → forward_count c (stays number t).answer + whole_blocks w s ≡ backward_count c (stays number t).answer + whole_blocks w s → OneCall w lent t c (stays number t)
  unfolding stays
  refuse c number by none = record { sound = good; counted = none; by_lengths = by }

  cut-sound : (size keep : ℕ) → SoundTape w (tape_cut w t size keep).next
  unfolding tape_cut becomes
  cut-sound size keep = plain-sound w _ (take_within (length s - size + keep) s good.bytes)

  handed-on : OnBlock B (length s) (tape_handed w t)
  unfolding whole_blocks tape_handed
  handed-on = blocks-on B (length s) t.number good.up_to

  -- each call, test by test
  pub one-call : (c : Call) → OneCall w lent t c (tape_call w lent t c)
  unfolding stays becomes plain unfinished tape_append tape_cut tape_rewind tape_begin tape_hand_back tape_end tape_abandon whole_blocks starts_off_block keeps_too_much no_block by_length
  one-call (Append piece) =
      let c = Append piece in
      let p = piece.list in
      either (OneCall w lent t c) t.begun (λ begun. refuse c 17 refl refl)
      (λ idle.
      either (OneCall w lent t c) (ltb limit (length s + length p)) (λ over. refuse c 5 refl refl)
      (λ within.
      either (OneCall w lent t c) (too_many_blocks lent (whole_blocks w (s ++ p))) (λ full. refuse c 16 (full-by-length lent _ full) refl)
      (λ room.
      record {
        sound =
            plain-sound w (s ++ p)
            (record { few = omega (arith, length-append s p, ltb-false limit (length s + length p) within); bytes = bytes-append s p good.bytes.bytes piece.bytes });
        counted = append-counted p;
        by_lengths = refl;
      })))
  one-call (Rewind keep h) =
      let c = Rewind keep h in
      let size = length h.list in
      either (OneCall w lent t c) t.begun (λ begun. refuse c 17 refl refl)
      (λ idle.
      either (OneCall w lent t c) (starts_off_block B (length s) size) (λ off. refuse c 6 refl refl)
      (λ on.
      either (OneCall w lent t c) (keeps_too_much B keep size) (λ much. refuse c 7 refl refl)
      (λ few.
      record { sound = cut-sound size keep; counted = cut-counted size keep (on-block B (length s) size on) (keeps-few B keep size few); by_lengths = refl })))
  one-call (Begin h) =
      let c = Begin h in
      either (OneCall w lent t c) t.begun (λ begun. refuse c 17 refl refl)
      (λ idle.
      either (OneCall w lent t c) (not (eqb (length h.list) (length s % B))) (λ other. refuse c 6 refl refl)
      (λ same. record { sound = record { bytes = good.bytes; up_to = zero-le }; counted = refl; by_lengths = refl }))
  one-call (HandBack block) =
      let c = HandBack block in
      let size = length block.list in
      either (OneCall w lent t c) (not t.begun) (λ idle. refuse c 17 refl refl)
      (λ begun.
      either (OneCall w lent t c) (no_block B (length s) t.number size) (λ none. refuse c 6 refl refl)
      (λ one.
      record { sound = record { bytes = good.bytes; up_to = omega (arith, (a_block B (length s) t.number size one).1) }; counted = refl; by_lengths = refl }))
  one-call (End keep) =
      let c = End keep in
      let size = tape_handed w t in
      either (OneCall w lent t c) (not t.begun) (λ idle. refuse c 17 refl refl)
      (λ begun.
      either (OneCall w lent t c) (keeps_too_much B keep size) (λ much. refuse c 7 refl refl)
      (λ few. record { sound = cut-sound size keep; counted = cut-counted size keep handed-on (keeps-few B keep size few); by_lengths = refl }))
  one-call Abandon =
      either (OneCall w lent t Abandon) (not t.begun) (λ idle. refuse Abandon 17 refl refl)
      (λ begun. record { sound = plain-sound w s good.bytes; counted = refl; by_lengths = refl })

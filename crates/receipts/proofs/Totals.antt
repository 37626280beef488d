-- What the counts of Tally come to, and what the place of a refusal says.
-- Assumes nothing.
use mathlib.Core.Path.{◌≡◌, refl, ap, ◌∙◌}
use mathlib.Core.Bool.{Bool, true, false}
use mathlib.Core.List.{List, []}
use Prim.Native.Nat.{ℕ, ◌+◌, ◌<◌, zero-le}
use native.Mathlib.Omega.{arith}
use borrow.Author.Tests.{ltb-true}
use lib.Dec.{ltb}
use Rattle.receipts.specs.Receipt.{receipt_bytes}
use Rattle.receipts.specs.WellFormed.{well_formed}
use Rattle.receipts.specs.declared.Counts.{Counts}
use Rattle.receipts.specs.Kinds.{firsts, reprints, blanks}
use Rattle.receipts.specs.Tally.{most_receipts, receipt_count, receipt_at, receipts, receipts_of, first_malformed, is_bad_length, refused_tally, counted, tally_call}
use Rattle.receipts.proofs.Malformed.{place-malformed, before-well-formed}
use Rattle.receipts.proofs.Counting.{all-counted, length-receipts}
use Rattle.receipts.proofs.TallyAnswers.{answer, accepted}

module _ (s : List ℕ) where
  abbrev place : ℕ
  place = first_malformed s 0 (receipt_count s)

  -- the sum of the three counts of an accepted tally
  pub tally-total : (tally_call s).number ≡ 0 → (tally_call s).firsts + (tally_call s).reprints + (tally_call s).blanks ≡ receipt_count s
  unfolding counted receipts_of
  tally-total taken =
      ap (λ (c : Counts). c.firsts + c.reprints + c.blanks) (accepted s taken) ∙ all-counted (receipts_of s) ∙ length-receipts s (receipt_count s)

  -- a tally that answers 14 gives the place of a malformed receipt before which each is well formed
  pub tally-place : (tally_call s).number ≡ 14
      → ((tally_call s).place < receipt_count s) × (well_formed (receipt_at s (tally_call s).place) ≡ false)
      × ((j : ℕ) → j < (tally_call s).place → well_formed (receipt_at s j) ≡ true)
  unfolding tally_call refused_tally counted
  tally-place said = go (is_bad_length s) (ltb place (receipt_count s)) refl said
    where
      go : (bad malformed : Bool) → ltb place (receipt_count s) ≡ malformed → (answer s bad malformed).number ≡ 14
          → ((answer s bad malformed).place < receipt_count s) × (well_formed (receipt_at s (answer s bad malformed).place) ≡ false)
          × ((j : ℕ) → j < (answer s bad malformed).place → well_formed (receipt_at s j) ≡ true)
      go false true is said =
          let lt : place < receipt_count s = ltb-true place (receipt_count s) is in
          (lt, place-malformed s 0 (receipt_count s) (omega arith), λ j h. before-well-formed s 0 (receipt_count s) j zero-le h)
      go false false is said = absurd (omega arith)
      go true malformed is said = absurd (omega arith)

pub tally-empty : tally_call [] ≡ record { number = 0; place = 0; firsts = 0; reprints = 0; blanks = 0 }
unfolding tally_call is_bad_length receipt_count receipt_bytes most_receipts receipts receipts_of first_malformed counted firsts reprints blanks
tally-empty = refl

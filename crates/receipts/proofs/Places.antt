-- The receipts of a list by their places, as the code takes them.
-- Assumes nothing.
use mathlib.Core.Path.{◌≡◌, refl, sym, ap, ◌∙◌}
use mathlib.Core.Bool.{Bool, true, false, ◌||◌, false≢true}
use mathlib.Core.List.{List}
use Prim.Native.Nat.{ℕ, zero, suc, ◌*◌, ◌<◌}
use native.Mathlib.Decide.{ℕ_discrete}
use native.Mathlib.Omega.{arith}
use lib.ListN.{length, drop, length-drop}
use lib.Seq.{length-take-le}
use Rattle.receipts.specs.Receipt.{receipt_bytes}
use Rattle.receipts.specs.Same.{same_receipt}
use Rattle.receipts.specs.Kinds.{came_before}
use Rattle.receipts.specs.Tally.{receipt_count, receipt_at, receipts}

pub receipt-length : (s : List ℕ) (i : ℕ) → i < receipt_count s → length (receipt_at s i) ≡ receipt_bytes
unfolding receipt_count receipt_at receipt_bytes
receipt-length s i h = length-take-le receipt_bytes (drop (i * receipt_bytes) s) (omega (arith, length-drop (i * receipt_bytes) s))

-- r is the same as the receipt at one of the first i places
pub found : (r s : List ℕ) (i j : ℕ) → j < i → same_receipt r (receipt_at s j) ≡ true → came_before r (receipts s i) ≡ true
unfolding receipts came_before
found r s zero j lt is = absurd (omega arith)
found r s (suc i) j lt is = go (ℕ_discrete j i) (same_receipt r (receipt_at s i)) refl (λ earlier. found r s i j earlier is)
  where
    go : Dec (j ≡ i) → (b : Bool) → same_receipt r (receipt_at s i) ≡ b → (j < i → came_before r (receipts s i) ≡ true) → (b || came_before r (receipts s i)) ≡ true
    go d true e before = refl
    go (yes last) false e before = absurd (false≢true (sym e ∙ ap (λ (k : ℕ). same_receipt r (receipt_at s k)) (sym last) ∙ is))
    go (no other) false e before = before (omega arith)

-- or as none of them
pub not_found : (r s : List ℕ) (i : ℕ) → ((j : ℕ) → j < i → same_receipt r (receipt_at s j) ≡ false) → came_before r (receipts s i) ≡ false
unfolding receipts came_before
not_found r s zero none = refl
not_found r s (suc i) none = rw (none i (omega arith)) (not_found r s i (λ j lt. none j (omega arith)))

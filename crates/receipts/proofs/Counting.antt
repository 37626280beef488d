-- The three counts, one receipt more at a time, and all together.
-- Assumes nothing.
use mathlib.Core.Path.{◌≡◌, refl, ap, ap₂, ◌∙◌}
use mathlib.Core.Bool.{Bool, true, false, not, ◌&&◌}
use mathlib.Core.List.{List, [], ◌∷◌}
use Prim.Native.Nat.{ℕ, zero, suc, ◌+◌}
use native.Mathlib.Numerals.{add-one}
use native.Mathlib.Omega.{arith}
use lib.ListN.{length}
use Rattle.lists.proofs.Counting.{more}
use Rattle.receipts.specs.Kinds.{is_blank, came_before, is_first, is_reprint, firsts, reprints, blanks}
use Rattle.receipts.specs.Tally.{receipt_count, receipt_at, receipts, receipts_of, counted}

-- each receipt is a first, a reprint or a blank, and only one of these
pub all-counted : (rs : List (List ℕ)) → firsts rs + reprints rs + blanks rs ≡ length rs
unfolding firsts reprints blanks is_first is_reprint
all-counted [] = refl
all-counted (r ∷ rs) =
    let e : firsts rs + reprints rs + blanks rs ≡ length rs = all-counted rs in
    go (is_blank r) (came_before r rs) e
  where
    go : (blank again : Bool) → firsts rs + reprints rs + blanks rs ≡ length rs
        → more (not blank && not again) (firsts rs) + more (not blank && again) (reprints rs) + more blank (blanks rs) ≡ suc (length rs)
    go true again e = omega arith
    go false true e = omega arith
    go false false e = omega arith

pub length-receipts : (s : List ℕ) (k : ℕ) → length (receipts s k) ≡ k
unfolding receipts
length-receipts s zero = refl
length-receipts s (suc k) = ap suc (length-receipts s k)

-- the counts of the first i receipts
pub record Counted (s : List ℕ) (f r b i : ℕ) : Type 0 where
  pub firsts_are : f ≡ firsts (receipts s i)
  pub reprints_are : r ≡ reprints (receipts s i)
  pub blanks_are : b ≡ blanks (receipts s i)

pub counted_none : (s : List ℕ) → Counted s 0 0 0 0
unfolding receipts firsts reprints blanks
counted_none s = record { firsts_are = refl; reprints_are = refl; blanks_are = refl }

module _ {s : List ℕ} {f r b i : ℕ} (h : Counted s f r b i) where
  pub together : f + r + b ≡ i
  together = ap₂ ◌+◌ (ap₂ ◌+◌ h.firsts_are h.reprints_are) h.blanks_are ∙ all-counted (receipts s i) ∙ length-receipts s i

  -- by whether the receipt at place i is a blank, and whether it is the same as an earlier one
  pub one_more : {f₁ r₁ b₁ : ℕ} {blank again : Bool} → is_blank (receipt_at s i) ≡ blank → came_before (receipt_at s i) (receipts s i) ≡ again
      → f₁ ≡ more (not blank && not again) f → r₁ ≡ more (not blank && again) r → b₁ ≡ more blank b → Counted s f₁ r₁ b₁ (i + 1)
  unfolding receipts firsts reprints blanks is_first is_reprint
  one_more {blank = blank} {again = again} is_blank is_again fs rs bs =
      record {
        firsts_are = rw (add-one i, is_blank, is_again) (fs ∙ ap (more (not blank && not again)) h.firsts_are);
        reprints_are = rw (add-one i, is_blank, is_again) (rs ∙ ap (more (not blank && again)) h.reprints_are);
        blanks_are = rw (add-one i, is_blank) (bs ∙ ap (more blank) h.blanks_are);
      }

  pub all_done : i ≡ receipt_count s → record { number = 0; place = 0; firsts = f; reprints = r; blanks = b } ≡ counted (receipts_of s)
  unfolding counted receipts_of
  all_done e =
      let first-i : record { number = 0; place = 0; firsts = f; reprints = r; blanks = b } ≡ counted (receipts s i) =
      λ k. record { number = 0; place = 0; firsts = h.firsts_are k; reprints = h.reprints_are k; blanks = h.blanks_are k }
      in
      first-i ∙ ap (λ (n : ℕ). counted (receipts s n)) e

-- The free choice of W1: which unlinked slot is taken for a checkpoint.
-- Assumes nothing.
use Rattle.std.specs.Prelude.{◌≡◌, false, cond, List, ℕ, zero, suc, ◌≤◌, ◌<◌, length}
use Rattle.checkpoints.specs.Members.{member}

-- the first of the n numbers from i on that is not in the list
abbrev pub first_free : ℕ → ℕ → List ℕ → ℕ
first_free i zero linked = i
first_free i (suc n) linked = cond (member i linked) (first_free (suc i) n linked) i

-- the choice: of k slots, the lowest that is not linked
unfoldable pub free_slot : ℕ → List ℕ → ℕ
free_slot k linked = first_free 1 k linked

-- what holds of a choice: where fewer than k slots are linked, it is one of the k, and not linked. All that is said of rolls goes by this alone, so that
-- with another choice by the number of slots and the links free_slot changes, and no other statement. One by the roll's other bytes would be another type
pub record Unlinked (k : ℕ) (linked : List ℕ) (i : ℕ) : Type 0 where
  pub some : 0 < i
  pub within : i ≤ k
  pub free : member i linked ≡ false

unfoldable pub FreeChoice : (ℕ → List ℕ → ℕ) → Type 0
FreeChoice choose = (k : ℕ) (linked : List ℕ) → length linked < k → Unlinked k linked (choose k linked)

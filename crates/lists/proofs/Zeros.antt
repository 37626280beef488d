-- The front and the end of a string of equal numbers, and how long a string is that zeros fill.
-- Assumes nothing.
use mathlib.Core.Path.{◌≡◌, refl, ap, ◌∙◌}
use mathlib.Core.List.{List, ◌∷◌}
use Prim.Native.Nat.{ℕ, zero, suc, ◌-◌, ◌≤◌}
use native.Mathlib.Nat.{le_of_suc-le-suc, sub-zero, zero-sub, suc-sub-suc}
use native.Mathlib.Omega.{arith}
use lib.ListN.{length, take, drop, replicate, length-append, length-replicate}
use Rattle.lists.specs.ZeroFilled.{zero_filled}

pub take-replicate : (k n a : ℕ) → k ≤ n → take k (replicate n a) ≡ replicate k a
take-replicate zero n a h = refl
take-replicate (suc k) zero a h = absurd (omega arith)
take-replicate (suc k) (suc n) a h = ap (λ (r : List ℕ). a ∷ r) (take-replicate k n a (le_of_suc-le-suc h))

pub drop-replicate : (k n a : ℕ) → drop k (replicate n a) ≡ replicate (n - k) a
drop-replicate zero n a = rw sub-zero
drop-replicate (suc k) zero a = rw zero-sub
drop-replicate (suc k) (suc n) a = rw suc-sub-suc (drop-replicate k n a)

pub filled-length : (n : ℕ) (s : List ℕ) → length s ≤ n → length (zero_filled n s) ≡ n
filled-length n s h = length-append s (replicate (n - length s) 0) ∙ omega (arith, length-replicate {A = ℕ} (n - length s) 0)

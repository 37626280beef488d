-- The bytes before the first that is the mark.
-- Assumes nothing.
use mathlib.Core.Path.{◌≡◌, refl, ap}
use mathlib.Core.Bool.{Bool, true, false, cond}
use mathlib.Core.List.{List, [], ◌∷◌}
use Prim.Native.Nat.{ℕ, ◌≤◌, zero-le}
use native.Mathlib.Omega.{arith}
use lib.Dec.{eqb}
use lib.ListN.{length, take}
use Rattle.script.specs.Words.{before}

pub before-le : (m : ℕ) (s : List ℕ) → length (before m s) ≤ length s
before-le m [] = zero-le
before-le m (x ∷ s) = go (eqb x m) (before-le m s)
  where
    go : (b : Bool) → length (before m s) ≤ length s → length (cond b [] (x ∷ before m s)) ≤ length (x ∷ s)
    go true le = zero-le
    go false le = omega arith

pub take-before : (m : ℕ) (s : List ℕ) → take (length (before m s)) s ≡ before m s
take-before m [] = refl
take-before m (x ∷ s) = go (take-before m s) (eqb x m)
  where
    go : take (length (before m s)) s ≡ before m s → (b : Bool) → take (length (cond b [] (x ∷ before m s))) (x ∷ s) ≡ cond b [] (x ∷ before m s)
    go e true = refl
    go e false = ap (λ (t : List ℕ). x ∷ t) e

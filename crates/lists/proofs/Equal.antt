-- The test of two lists says that they are the same list; and what a loop over both lists asks for.
-- Assumes nothing.
use mathlib.Core.Path.{◌≡◌, refl, ap₂}
use mathlib.Core.Bool.{true, false≢true}
use mathlib.Core.List.{List, [], ◌∷◌}
use Prim.Native.Nat.{ℕ}
use lib.Dec.{eqb}
use borrow.Author.Tests.{eqb-true, eq-eqb}
use Rattle.lsh.proofs.Tests.{and-true}
use Rattle.lists.specs.Equal.{equal}

pub equal-self : (s : List ℕ) → equal s s ≡ true
equal-self [] = refl
equal-self (x ∷ xs) = rw (eq-eqb x x refl) (equal-self xs)

pub equal-true : (s t : List ℕ) → equal s t ≡ true → s ≡ t
equal-true [] [] e = refl
equal-true [] (y ∷ ys) e = absurd (false≢true e)
equal-true (x ∷ xs) [] e = absurd (false≢true e)
equal-true (x ∷ xs) (y ∷ ys) e =
    let p : (eqb x y ≡ true) × (equal xs ys ≡ true) = and-true (eqb x y) (equal xs ys) e in
    ap₂ (λ (z : ℕ) (zs : List ℕ). z ∷ zs) (eqb-true x y p.0) (equal-true xs ys p.1)

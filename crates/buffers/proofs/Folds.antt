-- Tests of each element, put together by a fold with no early end.
-- Assumes nothing.
use mathlib.Core.Path.{◌≡◌, refl, ap, ◌∙◌}
use mathlib.Core.Bool.{Bool, true, ◌&&◌, and_assoc, and_comm}
use mathlib.Core.List.{List, [], ◌∷◌}
use Prim.Native.Nat.{ℕ}
use native.Mathlib.Omega.{arith}
use lib.Dec.{eqb}
use lib.ListN.{length}
use Rattle.std.specs.List.{fold, zip, list_all}
use Rattle.std.specs.Cmp.Lexicographic.{pointwise}
use Rattle.lists.specs.Lists.{all_zero}

fold-and : {A : Type 0} (p : A → Bool) (b : Bool) (s : List A) → fold (λ (z : Bool) (x : A). z && p x) b s ≡ (b && list_all p s)
fold-and p b [] = and_comm true b
fold-and p b (x ∷ s) = fold-and p (b && p x) s ∙ and_assoc b (p x) (list_all p s)

all-zero : (s : List ℕ) → list_all (λ (x : ℕ). eqb x 0) s ≡ all_zero s
all-zero [] = refl
all-zero (x ∷ s) = ap (λ (b : Bool). eqb x 0 && b) (all-zero s)

pub fold-zero : (s : List ℕ) → fold (λ (z : Bool) (x : ℕ). z && eqb x 0) true s ≡ all_zero s
fold-zero s = fold-and (λ (x : ℕ). eqb x 0) true s ∙ all-zero s

module _ {A : Type 0} (E : A → A → Bool) where
  all_same : (s t : List A) → length s ≡ length t → list_all (λ (p : A × A). E p.0 p.1) (zip s t) ≡ pointwise E s t
  all_same [] [] e = refl
  all_same [] (y ∷ t) e = absurd (omega arith)
  all_same (x ∷ s) [] e = absurd (omega arith)
  all_same (x ∷ s) (y ∷ t) e = ap (λ (b : Bool). E x y && b) (all_same s t (omega arith))

  pub fold_same : (s t : List A) → length s ≡ length t → fold (λ (z : Bool) (p : A × A). z && E p.0 p.1) true (zip s t) ≡ pointwise E s t
  fold_same s t e = fold-and (λ (p : A × A). E p.0 p.1) true (zip s t) ∙ all_same s t e

-- Tests that antt computes over a whole table, and what each says of every entry.
-- Assumes nothing.
use mathlib.Core.Path.{◌≡◌, refl, sym, subst}
use mathlib.Core.Bool.{Bool, true, false, cond, ◌&&◌, ◌||◌, false≢true}
use mathlib.Core.List.{List, [], ◌∷◌}
use Prim.Native.Nat.{ℕ, zero, suc, ◌≤◌, ◌<◌, zero-le}
use native.Mathlib.Nat.{not-suc-le-zero}
use native.Mathlib.Decide.{ℕ_discrete}
use native.Mathlib.Omega.{arith}
use lib.Dec.{T, leb, leb→le}
use Rattle.lsh.specs.Tabulate.{at}

-- what holds of both choices holds of the choice
pub either : {A : Type 0} (P : A → Type 0) (t : Bool) {u v : A} → (t ≡ true → P u) → (t ≡ false → P v) → P (cond t u v)
either P true h k = h refl
either P false h k = k refl

pub and-true : (p q : Bool) → p && q ≡ true → (p ≡ true) × (q ≡ true)
and-true true q e = (refl, e)
and-true false q e = absurd (false≢true e)

pub and-false : (p : Bool) → p && false ≡ false
and-false true = refl
and-false false = refl

pub or-false : (p q : Bool) → p || q ≡ false → (p ≡ false) × (q ≡ false)
or-false true q e = absurd (false≢true (sym e))
or-false false q e = (refl, e)

-- a test that does not pass
pub is_false : (p : Bool) → (p ≡ true → ⊥) → p ≡ false
is_false true h = absurd (h refl)
is_false false h = refl

pub and_left : (a b : Bool) → T (a && b) → T a
and_left true b t = tt
and_left false b t = t

pub and_right : (a b : Bool) → T (a && b) → T b
and_right true b t = t
and_right false b t = absurd t

-- each number below n passes
abbrev pub all_pass : ℕ → (ℕ → Bool) → Bool
all_pass zero p = true
all_pass (suc n) p = p n && all_pass n p

pub at-all_pass : (n : ℕ) (p : ℕ → Bool) → T (all_pass n p) → (k : ℕ) → k < n → T (p k)
at-all_pass zero p t k h = absurd (not-suc-le-zero h)
at-all_pass (suc n) p t k h = go (at-all_pass n p (and_right (p n) (all_pass n p) t) k) (ℕ_discrete k n)
  where
    go : (k < n → T (p k)) → Dec (k ≡ n) → T (p k)
    go rest (yes e) = subst (λ (m : ℕ). T (p m)) (sym e) (and_left (p n) (all_pass n p) t)
    go rest (no ne) = rest (omega arith)

-- each entry is at most m
abbrev pub up_to : ℕ → List ℕ → Bool
up_to m [] = true
up_to m (x ∷ xs) = leb x m && up_to m xs

pub at-up_to : (m : ℕ) (xs : List ℕ) → T (up_to m xs) → (k : ℕ) → at xs k ≤ m
at-up_to m [] t k = zero-le
at-up_to m (x ∷ xs) t zero = leb→le x m (and_left (leb x m) (up_to m xs) t)
at-up_to m (x ∷ xs) t (suc k) = at-up_to m xs (and_right (leb x m) (up_to m xs) t) k

-- Which elements stand in a part of a list and in a longer one, and that no element is repeated there.
-- Assumes nothing.
use mathlib.Core.Path.{◌≡◌, refl, sym, ◌∙◌}
use mathlib.Core.Bool.{Bool, true, false, ◌||◌, or-true, false≢true}
use mathlib.Core.Logic.{◌⊎◌, inl, inr, ⊎_elim}
use mathlib.Core.List.{List, [], ◌∷◌, ◌++◌}
use Prim.Native.Nat.{ℕ, zero, suc, ◌≤◌}
use native.Mathlib.Omega.{arith}
use lib.ListN.{take}
use Rattle.lsh.proofs.Tests.{or-false, is_false}
use Rattle.lists.specs.Elements.{is_one_of, has_repeats, how_often}
use Rattle.lists.proofs.Counting.{IsEquivalence, more, none-often, same-swap, often-alike}

-- a test of either of two
or-either : (p q : Bool) → p || q ≡ true → (p ≡ true) ⊎ (q ≡ true)
or-either true q e = inl refl
or-either false q e = inr e

or_swap : (a b c : Bool) → a || (b || c) ≡ b || (a || c)
or_swap true true c = refl
or_swap true false c = refl
or_swap false b c = refl

module _ {A : Type 0} (same : A → A → Bool) where
  pub one-there : (x y : A) (l : List A) → is_one_of same x l ≡ true → is_one_of same x (y ∷ l) ≡ true
  one-there x y l e = rw e (or-true (same x y))

  pub one-cases : (x y : A) (l : List A) → is_one_of same x (y ∷ l) ≡ true → (same x y ≡ true) ⊎ (is_one_of same x l ≡ true)
  one-cases x y l e = or-either (same x y) (is_one_of same x l) e

  pub one-take : (x : A) (m : ℕ) (l : List A) → is_one_of same x (take m l) ≡ true → is_one_of same x l ≡ true
  one-take x zero l e = absurd (false≢true e)
  one-take x (suc m) [] e = e
  one-take x (suc m) (y ∷ l) e = ⊎_elim (λ h. rw h) (λ h. one-there x y l (one-take x m l h)) (one-cases x y (take m l) e)

  pub one-snoc : (x y : A) (l : List A) → is_one_of same x (l ++ y ∷ []) ≡ (same x y || is_one_of same x l)
  one-snoc x y [] = refl
  one-snoc x y (z ∷ l) = rw (one-snoc x y l) (or_swap (same x z) (same x y) (is_one_of same x l))

  -- what repeats no element repeats none behind its head, none in its first part, and none with one more that it lacks
  pub repeats-parts : (x : A) (l : List A) → has_repeats same (x ∷ l) ≡ false → (is_one_of same x l ≡ false) × (has_repeats same l ≡ false)
  repeats-parts x l e = or-false (is_one_of same x l) (has_repeats same l) e

  pub repeats-there : (x : A) (l : List A) → has_repeats same l ≡ true → has_repeats same (x ∷ l) ≡ true
  repeats-there x l e = rw e (or-true (is_one_of same x l))

  pub repeats-take : (m : ℕ) (l : List A) → has_repeats same l ≡ false → has_repeats same (take m l) ≡ false
  repeats-take zero l e = refl
  repeats-take (suc m) [] e = refl
  repeats-take (suc m) (x ∷ l) e =
      let p : (is_one_of same x l ≡ false) × (has_repeats same l ≡ false) = repeats-parts x l e in
      let none : is_one_of same x (take m l) ≡ false = is_false (is_one_of same x (take m l)) (λ h. false≢true (sym p.0 ∙ one-take x m l h)) in
      rw none (repeats-take m l p.1)

  pub repeats-snoc : IsEquivalence same → (y : A) (l : List A) → has_repeats same l ≡ false → is_one_of same y l ≡ false → has_repeats same (l ++ y ∷ []) ≡ false
  repeats-snoc ok y [] e h = refl
  repeats-snoc ok y (x ∷ l) e h =
      let p : (is_one_of same x l ≡ false) × (has_repeats same l ≡ false) = repeats-parts x l e in
      let q : (same y x ≡ false) × (is_one_of same y l ≡ false) = or-false (same y x) (is_one_of same y l) h in
      rw (one-snoc x y l, same-swap ok x y, q.0, p.0) (repeats-snoc ok y l p.1 q.1)

  -- no element stands more than once in a list without repetition
  pub no-repeats : IsEquivalence same → (l : List A) → has_repeats same l ≡ false → (x : A) → how_often same x l ≤ 1
  no-repeats ok [] e x = omega arith
  no-repeats ok (y ∷ l) e x =
      let p : (is_one_of same y l ≡ false) × (has_repeats same l ≡ false) = repeats-parts y l e in
      go (same x y) refl p.0 (no-repeats ok l p.1 x)
    where
      go : (b : Bool) → same x y ≡ b → is_one_of same y l ≡ false → how_often same x l ≤ 1 → more b (how_often same x l) ≤ 1
      go true e none rest = omega (arith, often-alike ok x y e l, none-often same y l none)
      go false e none rest = rest

-- How often each element stands in a list decides how many elements pass a test that does not tell the same ones apart.
-- Assumes nothing.
use mathlib.Core.Path.{◌≡◌, refl, sym, ap, ◌∙◌}
use mathlib.Core.Bool.{Bool, true, false, cond, ◌||◌, false≢true}
use mathlib.Core.List.{List, [], ◌∷◌}
use Prim.Native.Nat.{ℕ, ◌+◌, ◌≤◌, ◌<◌}
use native.Mathlib.Omega.{arith}
use borrow.Author.Tests.{ltb-true, ltb-false, lt-ltb}
use lib.Dec.{ltb}
use lib.ListN.{length}
use Rattle.lists.specs.Elements.{is_one_of, how_many, how_often}
use Rattle.lists.specs.Choice.{EachAsOften}

-- what a test for sameness has to satisfy: an element is the same as itself, and two that are the same are the same as the same ones
pub record IsEquivalence {A : Type 0} (same : A → A → Bool) : Type 0 where
  pub self : (x : A) → same x x ≡ true
  pub alike : (x y z : A) → same x y ≡ true → same x z ≡ same y z

-- a test that does not tell the same elements apart
abbrev pub Respects : {A : Type 0} → (A → A → Bool) → (A → Bool) → Type 0
Respects {A} same p = (x y : A) → same x y ≡ true → p x ≡ p y

-- a count with one element more, which is counted or not
abbrev pub more : Bool → ℕ → ℕ
more is k = cond is (k + 1) k

more-swap : (a b : Bool) (k : ℕ) → more a (more b k) ≡ more b (more a k)
more-swap true true k = refl
more-swap true false k = refl
more-swap false b k = refl

more-cancel : (a : Bool) (j k : ℕ) → more a j ≡ more a k → j ≡ k
more-cancel true j k e = omega arith
more-cancel false j k e = e

pub le-more : (a : Bool) (k : ℕ) → k ≤ more a k
le-more true k = omega arith
le-more false k = omega arith

pub more-monotone : (a : Bool) (j k : ℕ) → j ≤ k → more a j ≤ more a k
more-monotone true j k le = omega arith
more-monotone false j k le = le

-- how many elements pass a test of the element alone
abbrev pub passing : {A : Type 0} → (A → Bool) → List A → ℕ
passing p l = how_many (λ x behind. p x) l

pub passing-all : {A : Type 0} (l : List A) → passing (λ x. true) l ≡ length l
passing-all [] = refl
passing-all (x ∷ l) = omega (arith, passing-all l)

-- what is one of a list stands in it once or more often
module _ {A : Type 0} (same : A → A → Bool) (x : A) where
  stands : (l : List A) → is_one_of same x l ≡ ltb 0 (how_often same x l)
  stands [] = refl
  stands (y ∷ l) = go (same x y) (stands l)
    where
      go : (b : Bool) → is_one_of same x l ≡ ltb 0 (how_often same x l) → b || is_one_of same x l ≡ ltb 0 (more b (how_often same x l))
      go true e = sym (lt-ltb 0 (how_often same x l + 1) (omega arith))
      go false e = e

  pub one-often : (l : List A) → is_one_of same x l ≡ true → 0 < how_often same x l
  one-often l e = ltb-true 0 (how_often same x l) (sym (stands l) ∙ e)

  pub none-often : (l : List A) → is_one_of same x l ≡ false → how_often same x l ≡ 0
  none-often l e = omega (arith, ltb-false 0 (how_often same x l) (sym (stands l) ∙ e))

  pub often-one : (l : List A) → 0 < how_often same x l → is_one_of same x l ≡ true
  often-one l some = stands l ∙ lt-ltb 0 (how_often same x l) some

-- the list without the first one that is the same as x
abbrev pub without : {A : Type 0} → (A → A → Bool) → A → List A → List A
without same x [] = []
without same x (y ∷ l) = cond (same x y) l (y ∷ without same x l)

module _ {A : Type 0} {same : A → A → Bool} (ok : IsEquivalence same) where
  pub same-swap : (x y : A) → same x y ≡ same y x
  same-swap x y = go (same x y) (same y x) refl refl
    where
      go : (a b : Bool) → same x y ≡ a → same y x ≡ b → a ≡ b
      go true true ea eb = refl
      go false false ea eb = refl
      go true false ea eb = absurd (false≢true (sym eb ∙ sym (ok.alike x y x ea) ∙ ok.self x))
      go false true ea eb = absurd (false≢true (sym ea ∙ sym (ok.alike y x y eb) ∙ ok.self y))

  same-respects : (z : A) → Respects same (same z)
  same-respects z x y e = same-swap z x ∙ ok.alike x y z e ∙ same-swap y z

  pub often-alike : (x y : A) → same x y ≡ true → (l : List A) → how_often same x l ≡ how_often same y l
  often-alike x y e [] = refl
  often-alike x y e (z ∷ l) = rw (ok.alike x y z e, often-alike x y e l)

  pub head-often : (x : A) (l : List A) → 0 < how_often same x (x ∷ l)
  head-often x l = rw (ok.self x) (omega arith)

  -- a count without the first one that is the same as x
  pub removed : (p : A → Bool) → Respects same p → (x : A) (l : List A) → 0 < how_often same x l → passing p l ≡ more (p x) (passing p (without same x l))
  removed p respects x [] some = absurd (omega arith)
  removed p respects x (y ∷ l) some = go (same x y) refl some (removed p respects x l)
    where
      go : (b : Bool) → same x y ≡ b → 0 < more b (how_often same x l) → (0 < how_often same x l → passing p l ≡ more (p x) (passing p (without same x l)))
          → more (p y) (passing p l) ≡ more (p x) (passing p (cond b l (y ∷ without same x l)))
      go true e some behind = ap (λ (is : Bool). more is (passing p l)) (sym (respects x y e))
      go false e some behind = ap (more (p y)) (behind some) ∙ more-swap (p y) (p x) (passing p (without same x l))

  pub often-removed : (z x : A) (l : List A) → 0 < how_often same x l → how_often same z l ≡ more (same z x) (how_often same z (without same x l))
  often-removed z = removed (same z) (same-respects z)

  pub length_removed : (x : A) (l : List A) → 0 < how_often same x l → length l ≡ length (without same x l) + 1
  length_removed x l some = sym (passing-all l) ∙ removed (λ x. true) (λ x y e. refl) x l some ∙ ap (λ (k : ℕ). k + 1) (passing-all (without same x l))

  module _ (p : A → Bool) (respects : Respects same p) where
    -- where none passes, no element of the list does
    pub none_passes : (l : List A) → passing p l ≡ 0 → (x : A) → 0 < how_often same x l → p x ≡ false
    none_passes l none x some = go (p x) (removed p respects x l some)
      where
        go : (b : Bool) → passing p l ≡ more b (passing p (without same x l)) → b ≡ false
        go true e = absurd (omega arith)
        go false e = refl

    -- lists with the same elements, each as often
    pub as_many : (l m : List A) → EachAsOften same l m → passing p l ≡ passing p m
    as_many [] [] each = refl
    as_many [] (y ∷ m) each = absurd (omega (arith, each y, head-often y m))
    as_many (x ∷ l) m each =
        let some : 0 < how_often same x m = omega (arith, each x, head-often x l) in
        let rest : EachAsOften same l (without same x m) =
        λ z. more-cancel (same z x) (how_often same z l) (how_often same z (without same x m)) (each z ∙ often-removed z x m some) in
        ap (more (p x)) (as_many l (without same x m) rest) ∙ sym (removed p respects x m some)

  pub as_long : (l m : List A) → EachAsOften same l m → length l ≡ length m
  as_long l m each = sym (passing-all l) ∙ as_many (λ x. true) (λ x y e. refl) l m each ∙ passing-all m

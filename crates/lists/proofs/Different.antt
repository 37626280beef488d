-- How many different elements a list has, those of one kind set aside: each is counted where no element behind it is the same, and no choice of
-- different ones has more of them.
-- Assumes nothing.
use mathlib.Core.Path.{◌≡◌, refl, sym, ◌∙◌}
use mathlib.Core.Bool.{Bool, true, false, not, cond, ◌&&◌, false≢true}
use mathlib.Core.List.{List, [], ◌∷◌}
use Prim.Native.Nat.{ℕ, zero, suc, ◌≤◌, ◌<◌}
use native.Mathlib.Omega.{arith}
use lib.ListN.{length}
use Rattle.lists.specs.Elements.{is_one_of, has_repeats, how_many, how_often}
use Rattle.lists.specs.Choice.{EachAsOften, IsChoice}
use Rattle.lists.proofs.Counting.{more, le-more, more-monotone, passing, passing-all, one-often, none-often, often-one, without, IsEquivalence, Respects, often-alike, head-often, removed, often-removed, length_removed, none_passes}
use Rattle.lists.proofs.Repeats.{no-repeats}

-- the elements that pass a test of the element and of those behind it
abbrev pub those : {A : Type 0} → (A → List A → Bool) → List A → List A
those test [] = []
those test (x ∷ l) = cond (test x l) (x ∷ those test l) (those test l)

module _ {A : Type 0} (test : A → List A → Bool) where
  pub length-those : (l : List A) → length (those test l) ≡ how_many test l
  length-those [] = refl
  length-those (x ∷ l) = go (test x l) (length-those l)
    where
      go : (b : Bool) → length (those test l) ≡ how_many test l → length (cond b (x ∷ those test l) (those test l)) ≡ more b (how_many test l)
      go true e = omega arith
      go false e = e

  -- another test is passed by no more of these than of all
  passing-those : (p : A → Bool) (l : List A) → passing p (those test l) ≤ passing p l
  passing-those p [] = omega arith
  passing-those p (x ∷ l) = go (test x l) (passing-those p l)
    where
      go : (b : Bool) → passing p (those test l) ≤ passing p l → passing p (cond b (x ∷ those test l) (those test l)) ≤ more (p x) (passing p l)
      go true le = more-monotone (p x) (passing p (those test l)) (passing p l) le
      go false le = omega (arith, le-more (p x) (passing p l))

  how_many-le : (l : List A) → how_many test l ≤ length l
  how_many-le l = omega (arith, length-those l, passing-those (λ x. true) l, passing-all (those test l), passing-all l)

module _ {A : Type 0} {same : A → A → Bool} (ok : IsEquivalence same) (aside : A → Bool) (respects : Respects same aside) where
  -- a new element is not set aside, and no element behind it is the same
  abbrev new : A → List A → Bool
  new x behind = not (aside x) && not (is_one_of same x behind)

  -- what was chosen from a list is a choice from any list in which all of it stands
  choice-from : {l m c : List A} → IsChoice same aside l c → ((x : A) → 0 < how_often same x c → 0 < how_often same x m) → IsChoice same aside m c
  choice-from is listed = record { listed = listed; different = is.different; none_aside = is.none_aside }

  module _ {x : A} {l c : List A} (is : IsChoice same aside (x ∷ l) c) where
    -- it is a choice from l, if what is the same as x stands there or was not chosen
    without-head : ((z : A) → 0 < how_often same z c → same z x ≡ true → 0 < how_often same z l) → IsChoice same aside l c
    without-head still = choice-from is (λ z some. go (same z x) (still z some) (is.listed z some))
      where
        go : {k : ℕ} (b : Bool) → (b ≡ true → 0 < k) → 0 < more b k → 0 < k
        go true still there = still refl
        go false still there = there

    -- if x was chosen, the others are a choice from l
    others : 0 < how_often same x c → IsChoice same aside l (without same x c)
    others some =
        record {
          listed = λ z. listed (same z x) (often z) (is.different z) (is.listed z);
          different = λ z. omega (arith, often z, le-more (same z x) (how_often same z (without same x c)), is.different z);
          none_aside = omega (arith, removed ok aside respects x c some, le-more (aside x) (passing aside (without same x c)), is.none_aside);
        }
      where
        often : (z : A) → how_often same z c ≡ more (same z x) (how_often same z (without same x c))
        often z = often-removed ok z x c some

        listed : {j k m : ℕ} (b : Bool) → j ≡ more b k → j ≤ 1 → (0 < j → 0 < more b m) → 0 < k → 0 < m
        listed true e le there some = absurd (omega arith)
        listed false e le there some = there (omega arith)

  -- no choice from a list has more elements than are new in it
  pub most : (l c : List A) → IsChoice same aside l c → length c ≤ how_many new l
  most [] [] is = omega arith
  most [] (x ∷ c) is = absurd (omega (arith, is.listed x (head-often ok x c)))
  most (x ∷ l) c is = go (aside x) (is_one_of same x l) (how_often same x c) refl refl refl (most l)
    where
      go : (a b : Bool) (k : ℕ) → aside x ≡ a → is_one_of same x l ≡ b → how_often same x c ≡ k
          → ((d : List A) → IsChoice same aside l d → length d ≤ how_many new l) → length c ≤ more (not a && not b) (how_many new l)
      go true b k ea eb ek behind =
          behind c (without-head is (λ z some e. absurd (false≢true (sym (none_passes ok aside respects c is.none_aside z some) ∙ respects z x e ∙ ea))))
      go false true k ea eb ek behind = behind c (without-head is (λ z some e. omega (arith, often-alike ok z x e l, one-often same x l eb)))
      go false false zero ea eb ek behind =
          omega (arith, behind c (without-head is (λ z some e. absurd (omega (arith, often-alike ok z x e c)))))
      go false false (suc k) ea eb ek behind =
          omega (arith, length_removed ok x c (omega arith), behind (without same x c) (others is (omega arith)))

  new-different : (l : List A) (z : A) → how_often same z (those new l) ≤ 1
  new-different [] z = omega arith
  new-different (x ∷ l) z = go (aside x) (is_one_of same x l) (same z x) refl refl (new-different l z)
    where
      go : (a b c : Bool) → is_one_of same x l ≡ b → same z x ≡ c → how_often same z (those new l) ≤ 1
          → how_often same z (cond (not a && not b) (x ∷ those new l) (those new l)) ≤ 1
      go true b c eb ec le = le
      go false true c eb ec le = le
      go false false false eb ec le = rw ec le
      go false false true eb ec le = rw ec (omega (arith, passing-those new (same z) l, often-alike ok z x ec l, none-often same x l eb))

  new-none-aside : (l : List A) → passing aside (those new l) ≡ 0
  new-none-aside [] = refl
  new-none-aside (x ∷ l) = go (aside x) (is_one_of same x l) refl (new-none-aside l)
    where
      go : (a b : Bool) → aside x ≡ a → passing aside (those new l) ≡ 0 → passing aside (cond (not a && not b) (x ∷ those new l) (those new l)) ≡ 0
      go true b ea none = none
      go false true ea none = none
      go false false ea none = rw ea none

  -- and those that are new are a choice, with that many elements
  pub new-choice : (l : List A) → IsChoice same aside l (those new l)
  new-choice l =
      record { listed = λ z some. omega (arith, passing-those new (same z) l); different = new-different l; none_aside = new-none-aside l }

  -- a list with the same elements, each as often, has as many new ones
  pub as-many-new : (l m : List A) → EachAsOften same l m → how_many new l ≡ how_many new m
  as-many-new l m each = omega (arith, fewer l m each, fewer m l (λ x. sym (each x)))
    where
      fewer : (l m : List A) → EachAsOften same l m → how_many new l ≤ how_many new m
      fewer l m each =
          let also : IsChoice same aside m (those new l) = choice-from (new-choice l) (λ z some. omega (arith, each z, (new-choice l).listed z some)) in
          omega (arith, length-those new l, most m (those new l) also)

-- a list without repetition whose elements all stand in another list is not longer than that
pub not-longer : {A : Type 0} {same : A → A → Bool} → IsEquivalence same → (l c : List A) → has_repeats same c ≡ false
    → ((x : A) → is_one_of same x c ≡ true → is_one_of same x l ≡ true) → length c ≤ length l
not-longer {A} {same} ok l c distinct within =
    let choice : IsChoice same (λ x. false) l c =
    record {
      listed = λ x some. one-often same x l (within x (often-one same x c some));
      different = no-repeats same ok c distinct;
      none_aside = passing-none c;
    } in
    omega (arith, most ok (λ x. false) (λ x y e. refl) l c choice, how_many-le (λ x behind. not (is_one_of same x behind)) l)
  where
    passing-none : (c : List A) → passing (λ x. false) c ≡ 0
    passing-none [] = refl
    passing-none (x ∷ c) = passing-none c

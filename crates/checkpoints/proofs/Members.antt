-- Numbers in a list: one without repetition that has only numbers of 1 to k is not longer than k, and one shorter than k lacks one of them, which the
-- free choice finds.
-- Assumes nothing.
use mathlib.Core.Path.{◌≡◌, refl, sym, ap, ◌∙◌}
use mathlib.Core.Bool.{Bool, true, false, cond, false≢true}
use mathlib.Core.Logic.{◌⊎◌, inl, inr, ⊎_elim}
use mathlib.Core.List.{List, [], ◌∷◌}
use Prim.Native.Nat.{ℕ, zero, suc, ◌+◌, ◌≤◌, ◌<◌}
use native.Mathlib.Decide.{ℕ_discrete}
use native.Mathlib.Omega.{arith}
use lib.Dec.{eqb, leb}
use lib.ListN.{length, take}
use borrow.Author.Tests.{eqb-true, eq-eqb, leb-true, le-leb}
use Rattle.lsh.specs.Tabulate.{at}
use Rattle.lsh.proofs.Tests.{and-true, is_false}
use Rattle.lists.proofs.Counting.{IsEquivalence}
use Rattle.lists.proofs.Repeats.{one-there, one-cases, repeats-there}
use Rattle.lists.proofs.Different.{not-longer}
use Rattle.checkpoints.specs.Members.{member, repeats, all_up_to}
use Rattle.checkpoints.specs.FreeSlot.{first_free, free_slot, FreeChoice}

pub eqb-equivalence : IsEquivalence eqb
eqb-equivalence = record { self = λ x. eq-eqb x x refl; alike = λ x y z e. ap (λ (k : ℕ). eqb k z) (eqb-true x y e) }

-- a number at the head, and one behind it
pub member-here : (x : ℕ) (l : List ℕ) → member x (x ∷ l) ≡ true
member-here x l = rw (eq-eqb x x refl)

pub member-cases : (x y : ℕ) (l : List ℕ) → member x (y ∷ l) ≡ true → (x ≡ y) ⊎ (member x l ≡ true)
member-cases x y l e = ⊎_elim (λ h. inl (eqb-true x y h)) (λ h. inr h) (one-cases eqb x y l e)

-- two numbers of which one stands in the list and the other does not
pub apart : (x y : ℕ) (l : List ℕ) → member x l ≡ true → member y l ≡ false → x ≡ y → ⊥
apart x y l h k e = false≢true (sym k ∙ ap (λ (n : ℕ). member n l) (sym e) ∙ h)

pub member-at : (l : List ℕ) (m : ℕ) → m < length l → member (at l m) l ≡ true
member-at [] m h = absurd (omega arith)
member-at (x ∷ l) zero h = member-here x l
member-at (x ∷ l) (suc m) h = one-there eqb (at l m) x l (member-at l m (omega arith))

-- a number visited again shows in any longer part
pub repeats-again : (m : ℕ) (l : List ℕ) → m < length l → member (at l m) (take m l) ≡ true → repeats l ≡ true
repeats-again m [] h e = absurd (omega arith)
repeats-again zero (x ∷ l) h e = absurd (false≢true e)
repeats-again (suc m) (x ∷ l) h e =
    ⊎_elim
    (λ same. let back : member x l ≡ true = ap (λ (n : ℕ). member n l) (sym same) ∙ member-at l m (omega arith) in rw back)
    (λ later. repeats-there eqb x l (repeats-again m l (omega arith) later))
    (member-cases (at l m) x (take m l) e)

-- the test of a bound, for each number
pub each-up-to : (k : ℕ) (l : List ℕ) → all_up_to k l ≡ true → (x : ℕ) → member x l ≡ true → x ≤ k
each-up-to k [] e x h = absurd (false≢true h)
each-up-to k (y ∷ l) e x h =
    let p : (leb y k ≡ true) × (all_up_to k l ≡ true) = and-true (leb y k) (all_up_to k l) e in
    ⊎_elim (λ same. omega (arith, leb-true y k p.0)) (λ later. each-up-to k l p.1 x later) (member-cases x y l h)

pub all-up-to : (k : ℕ) (l : List ℕ) → ((x : ℕ) → member x l ≡ true → x ≤ k) → all_up_to k l ≡ true
all-up-to k [] h = refl
all-up-to k (y ∷ l) h = rw (le-leb y k (h y (member-here y l))) (all-up-to k l (λ x e. h x (one-there eqb x y l e)))

-- the numbers from k down to 1
abbrev down_from : ℕ → List ℕ
down_from zero = []
down_from (suc k) = suc k ∷ down_from k

length-down : (k : ℕ) → length (down_from k) ≡ k
length-down zero = refl
length-down (suc k) = ap suc (length-down k)

down-member : (k x : ℕ) → 0 < x → x ≤ k → member x (down_from k) ≡ true
down-member zero x some le = absurd (omega arith)
down-member (suc k) x some le = go (ℕ_discrete x (suc k)) (down-member k x some)
  where
    go : Dec (x ≡ suc k) → (x ≤ k → member x (down_from k) ≡ true) → member x (down_from (suc k)) ≡ true
    go (yes e) below = rw (eq-eqb x (suc k) e)
    go (no ne) below = one-there eqb x (suc k) (down_from k) (below (omega arith))

member-down : (k x : ℕ) → member x (down_from k) ≡ true → (0 < x) × (x ≤ k)
member-down zero x h = absurd (false≢true h)
member-down (suc k) x h = go (member-cases x (suc k) (down_from k) h) (member-down k x)
  where
    go : (x ≡ suc k) ⊎ (member x (down_from k) ≡ true) → (member x (down_from k) ≡ true → (0 < x) × (x ≤ k)) → (0 < x) × (x ≤ suc k)
    go (inl e) below = (omega arith, omega arith)
    go (inr h) below = ((below h).0, omega (arith, (below h).1))

down-distinct : (k : ℕ) → repeats (down_from k) ≡ false
down-distinct zero = refl
down-distinct (suc k) = rw (is_false (member (suc k) (down_from k)) (λ h. omega (arith, (member-down k (suc k) h).1))) (down-distinct k)

-- a list without repetition that has only numbers of 1 to k is not longer than k
pub distinct-few : (k : ℕ) (l : List ℕ) → repeats l ≡ false → ((x : ℕ) → member x l ≡ true → (0 < x) × (x ≤ k)) → length l ≤ k
distinct-few k l e h = omega (arith, length-down k, not-longer eqb-equivalence (down_from k) l e (λ x m. down-member k x (h x m).0 (h x m).1))

-- the first of n numbers that is not in the list, if there is one
first-free : (i n : ℕ) (l : List ℕ)
    → ((i ≤ first_free i n l) × (first_free i n l < i + n) × (member (first_free i n l) l ≡ false)) ⊎ ((j : ℕ) → i ≤ j → j < i + n → member j l ≡ true)
first-free i zero l = inr (λ j le lt. absurd (omega arith))
first-free i (suc n) l = go (member i l) refl (first-free (suc i) n l)
  where
    go : (b : Bool) → member i l ≡ b
        → ((suc i ≤ first_free (suc i) n l) × (first_free (suc i) n l < suc i + n) × (member (first_free (suc i) n l) l ≡ false))
        ⊎ ((j : ℕ) → suc i ≤ j → j < suc i + n → member j l ≡ true)
        → ((i ≤ cond b (first_free (suc i) n l) i) × (cond b (first_free (suc i) n l) i < i + suc n) × (member (cond b (first_free (suc i) n l) i) l ≡ false))
        ⊎ ((j : ℕ) → i ≤ j → j < i + suc n → member j l ≡ true)
    go false e rest = inl (omega arith, omega arith, e)
    go true e (inl h) = inl (omega arith, omega arith, h.2)
    go true e (inr h) = inr (λ j le lt. here j le lt (ℕ_discrete j i))
      where
        here : (j : ℕ) → i ≤ j → j < i + suc n → Dec (j ≡ i) → member j l ≡ true
        here j le lt (yes same) = ap (λ (x : ℕ). member x l) same ∙ e
        here j le lt (no other) = h j (omega arith) (omega arith)

pub free-choice : FreeChoice free_slot
unfolding FreeChoice free_slot
free-choice k l few =
    ⊎_elim
    (λ h. record { some = h.0; within = omega arith; free = h.2 })
    (λ h. absurd (omega (arith, length-down k, not-longer eqb-equivalence l (down_from k) (down-distinct k) (λ x m. h x (member-down k x m).0 (omega (arith, (member-down k x m).1))))))
    (first-free 1 k l)

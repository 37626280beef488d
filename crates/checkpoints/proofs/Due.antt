-- The numbers that are due: how many there are, the next one and those after it, and those up to a number.
-- Assumes nothing.
use mathlib.Core.Path.{◌≡◌, refl, sym, ap, ap₂, ◌∙◌}
use mathlib.Core.Bool.{Bool, true, false, cond}
use mathlib.Core.List.{List, [], ◌∷◌, ◌++◌}
use Prim.Native.Nat.{ℕ, zero, suc, ◌+◌, ◌-◌, ◌*◌, ◌/◌, ◌≤◌, ◌<◌, min}
use native.Mathlib.Omega.{arith}
use lib.Dec.{leb}
use lib.ListN.{length, take}
use lib.Seq.{take_at}
use borrow.Author.Tests.{leb-true, leb-false}
use Rattle.checkpoints.specs.Due.{Checkpoint, checkpoints_at, numbers_of, spacing, multiples_after, due_numbers, Each, up_to}

pub multiples-many : (k d : ℕ) → length (multiples_after k d) ≡ d
multiples-many k zero = refl
multiples-many k (suc d) = ap suc (multiples-many (suc k) d)

multiples-add : (d k e n j : ℕ) → n ≡ d + e → j ≡ k + d → multiples_after k n ≡ multiples_after k d ++ multiples_after j e
multiples-add zero k e n j all from =
    let same : k ≡ j = omega arith in
    let rest : n ≡ e = omega arith in
    ap₂ multiples_after same rest
multiples-add (suc d) k e zero j all from = absurd (omega arith)
multiples-add (suc d) k e (suc n) j all from = ap (λ (l : List ℕ). spacing * suc k ∷ l) (multiples-add d (suc k) e n j (omega arith) (omega arith))

-- how many of them are up to b
multiples-up-to : (b d k : ℕ) → k ≤ b / spacing → up_to b (multiples_after k d) ≡ min (b / spacing - k) d
multiples-up-to b zero k le = omega arith
multiples-up-to b (suc d) k le = go (leb (spacing * suc k) b) refl (multiples-up-to b d (suc k))
  where
    go : (t : Bool) → leb (spacing * suc k) b ≡ t → (suc k ≤ b / spacing → up_to b (multiples_after (suc k) d) ≡ min (b / spacing - suc k) d)
        → cond t (suc (up_to b (multiples_after (suc k) d))) 0 ≡ min (b / spacing - k) (suc d)
    go true e rest = let up : spacing * suc k ≤ b = leb-true (spacing * suc k) b e in omega (arith, rest (omega arith))
    go false e rest = let past : b < spacing * suc k = leb-false (spacing * suc k) b e in omega arith

pub first-up-to : (b d : ℕ) → up_to b (multiples_after 0 d) ≡ min (b / spacing) d
first-up-to b d = multiples-up-to b d 0 (omega arith) ∙ omega arith

module _ (old new : ℕ) where
  pub due-many : length (due_numbers old new) ≡ new / spacing - old / spacing
  unfolding due_numbers
  due-many = multiples-many (old / spacing) (new / spacing - old / spacing)

  -- the next one
  pub due-next : {next : ℕ} → next ≡ spacing * suc (old / spacing) → old / spacing < new / spacing → due_numbers old new ≡ next ∷ due_numbers next new
  unfolding due_numbers
  due-next {next} is less =
      let more : new / spacing - old / spacing ≡ suc (new / spacing - next / spacing) = omega arith in
      let from : suc (old / spacing) ≡ next / spacing = omega arith in
      ap (multiples_after (old / spacing)) more
      ∙ ap₂ (λ (a b : ℕ). a ∷ multiples_after b (new / spacing - next / spacing)) (sym is) from

  pub due-none : new / spacing ≤ old / spacing → due_numbers old new ≡ []
  unfolding due_numbers
  due-none le = let none : new / spacing - old / spacing ≡ 0 = omega arith in ap (multiples_after (old / spacing)) none

  -- in two parts
  pub due-parts : (mid : ℕ) → old ≤ mid → mid ≤ new → due_numbers old new ≡ due_numbers old mid ++ due_numbers mid new
  unfolding due_numbers
  due-parts mid from to =
      multiples-add (mid / spacing - old / spacing) (old / spacing) (new / spacing - mid / spacing) (new / spacing - old / spacing) (mid / spacing)
      (omega arith) (omega arith)

  -- each is above old and up to new
  pub due-each : (P : ℕ → Type 0) → ((k : ℕ) → old < k → k ≤ new → P k) → Each P (due_numbers old new)
  unfolding due_numbers
  due-each P holds = go (new / spacing - old / spacing) (old / spacing) (λ j from to. holds (spacing * j) (omega arith) (omega arith))
    where
      go : (d k : ℕ) → ((j : ℕ) → k < j → j ≤ k + d → P (spacing * j)) → Each P (multiples_after k d)
      go zero k holds = tt
      go (suc d) k holds = (holds (suc k) (omega arith) (omega arith), go d (suc k) (λ j from to. holds j (omega arith) (omega arith)))

-- those of the numbers up to c that are up to b
up-to-many : (b c : ℕ) → b ≤ c → up_to b (due_numbers 0 c) ≡ b / spacing - 0 / spacing
unfolding due_numbers
up-to-many b c le = first-up-to b (c / spacing - 0 / spacing) ∙ omega arith

pub due-up-to : (b c : ℕ) → b ≤ c → take (up_to b (due_numbers 0 c)) (due_numbers 0 c) ≡ due_numbers 0 b
due-up-to b c le =
    ap (take (up_to b (due_numbers 0 c))) (due-parts 0 c b (omega arith) le)
    ∙ take_at (due_numbers 0 b) (due_numbers b c) (up_to b (due_numbers 0 c)) (due-many 0 b ∙ sym (up-to-many b c le))

-- two rules that agree at the numbers give the same checkpoints
pub same_at : (f g : ℕ → List ℕ) (l : List ℕ) → Each (λ (k : ℕ). f k ≡ g k) l → checkpoints_at f l ≡ checkpoints_at g l
same_at f g [] same = refl
same_at f g (x ∷ l) same = ap₂ (λ (t : List ℕ) (cs : List Checkpoint). record { number = x; chain = t } ∷ cs) same.0 (same_at f g l same.1)

module _ (f : ℕ → List ℕ) where
  pub numbers-at : (l : List ℕ) → numbers_of (checkpoints_at f l) ≡ l
  numbers-at [] = refl
  numbers-at (x ∷ l) = ap (λ (r : List ℕ). x ∷ r) (numbers-at l)

  pub take-at-numbers : (m : ℕ) (l : List ℕ) → take m (checkpoints_at f l) ≡ checkpoints_at f (take m l)
  take-at-numbers zero l = refl
  take-at-numbers (suc m) [] = refl
  take-at-numbers (suc m) (x ∷ l) = ap (λ (cs : List Checkpoint). record { number = x; chain = f x } ∷ cs) (take-at-numbers m l)

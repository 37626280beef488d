-- A checkpoint, and the numbers of those that are due.
-- Assumes nothing.
use Rattle.std.specs.Prelude.{cond, List, [], ◌∷◌, map, ℕ, zero, suc, ◌-◌, ◌*◌, ◌/◌, leb}

-- a checkpoint: a number of blocks, and the chain after so many
pub record Checkpoint : Type 0 where
  pub number : ℕ
  pub chain : List ℕ

-- the checkpoints at these numbers, where chain gives the chain after each
abbrev pub checkpoints_at : (ℕ → List ℕ) → List ℕ → List Checkpoint
checkpoints_at chain numbers = map (λ k. record { number = k; chain = chain k }) numbers

abbrev pub numbers_of : List Checkpoint → List ℕ
numbers_of cs = map (λ c. c.number) cs

-- a checkpoint is inserted at every 64th block
abbrev pub spacing : ℕ
spacing = 64

-- the d multiples of 64 after the k-th
abbrev pub multiples_after : ℕ → ℕ → List ℕ
multiples_after k zero = []
multiples_after k (suc d) = spacing * suc k ∷ multiples_after (suc k) d

-- the numbers that are due where the whole blocks of an order grow from old to new: the multiples of 64 above old and up to new, in order
unfoldable pub due_numbers : ℕ → ℕ → List ℕ
due_numbers old new = multiples_after (old / spacing) (new / spacing - old / spacing)

-- P holds of each element
abbrev pub Each : {A : Type 0} → (A → Type 0) → List A → Type 0
Each P [] = Unit {0}
Each P (x ∷ l) = P x × Each P l

-- how many of the numbers, from the front, are up to k
abbrev pub up_to : ℕ → List ℕ → ℕ
up_to k [] = 0
up_to k (x ∷ l) = cond (leb x k) (suc (up_to k l)) 0

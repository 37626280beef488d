-- The numbers that the words of a list are.
-- Assumes nothing.
use Rattle.std.specs.Prelude.{◌≡◌, List, ℕ, ◌<◌, length, slice_index_or, slice_set}
use Rattle.lsh.specs.Tabulate.{at}

-- numbers takes every word of a list to its number
pub record TakesEach {A : Type 0} (number : A → ℕ) (numbers : List A → List ℕ) : Type 0 where
  pub len : (t : List A) → length (numbers t) ≡ length t
  pub word : (t : List A) (i : ℕ) (d : A) → i < length t → number (slice_index_or t i d) ≡ at (numbers t) i
  pub stored : (t : List A) (i : ℕ) (x : A) → numbers (slice_set t i x) ≡ slice_set (numbers t) i (number x)

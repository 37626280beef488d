-- The published hash functions: LSH-256-224 and LSH-256-256, and LSH-512-n for n = 224, 256, 384 and 512.
-- Assumes nothing.
use Rattle.std.specs.Prelude.{List, [], ◌∷◌, ℕ, Bool, false, ◌&&◌, ◌||◌, ◌==◌}

-- w and n of each
unfoldable pub published_sizes : List ℕ
published_sizes = 32 ∷ 32 ∷ 64 ∷ 64 ∷ 64 ∷ 64 ∷ []

unfoldable pub published_lengths : List ℕ
published_lengths = 224 ∷ 256 ∷ 224 ∷ 256 ∷ 384 ∷ 512 ∷ []

-- w and n stand at one place of the two lists
unfoldable pub stand_together : ℕ → ℕ → List ℕ → List ℕ → Bool
stand_together w n (v ∷ sizes) (m ∷ lengths) = (w == v && n == m) || stand_together w n sizes lengths
stand_together w n [] lengths = false
stand_together w n sizes [] = false

unfoldable pub is_published : ℕ → ℕ → Bool
is_published w n = stand_together w n published_sizes published_lengths

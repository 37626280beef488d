-- The sub-messages of a block in one array of words: M_j is row j, the 16 words from place 16j on.
-- Assumes nothing.
use Rattle.std.specs.Prelude.{◌≡◌, List, ℕ, ◌+◌, ◌*◌, ◌≤◌, length}
use Rattle.lsh.specs.Tabulate.{at, tabulate}
use Rattle.lsh.specs.WordSize.{WordSize}
use Rattle.lsh.specs.Expansion.{sub_message}

-- the words of such an array: M_0 to M_Ns
unfoldable pub expanded_words : WordSize → ℕ
expanded_words z = 16 * (z.steps + 1)

unfoldable pub row : List ℕ → ℕ → List ℕ
row m j = tabulate 16 (λ l. at m (j * 16 + l))

-- M_0 to M_s of the block b stand in m
pub record Expanded (z : WordSize) (b m : List ℕ) (s : ℕ) : Type 0 where
  pub len : length m ≡ expanded_words z
  pub rows : (j : ℕ) → j ≤ s → row m j ≡ sub_message z b j

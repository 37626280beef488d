-- The sub-messages of two blocks in one array of rows, each from a row of its own on.
-- Assumes nothing.
use Rattle.std.specs.Prelude.{◌≡◌, List, ℕ, ◌+◌, ◌*◌, ◌≤◌, ◌<◌, length}
use Rattle.std.proofs.lemmas.List.Edits.{sets}
use Rattle.lsh.specs.WordSize.{WordSize}
use Rattle.lsh.specs.Expansion.{sub_message}
use Rattle.loops.specs.Rows.{row}

-- M_0 to M_s of the block b stand in m from row k on
pub record ExpandedFrom (z : WordSize) (b m : List ℕ) (k s : ℕ) : Type 0 where
  pub rows : (j : ℕ) → j ≤ s → row m (k + j) ≡ sub_message z b j

-- from m to o, all rows are kept but the h from n on
pub record KeptBut (m o : List ℕ) (n h : ℕ) : Type 0 where
  pub len : length o ≡ length m
  pub below : (q : ℕ) → q < n → row o q ≡ row m q
  pub above : (q : ℕ) → n + h ≤ q → row o q ≡ row m q

-- the words of the block b as rows n and n + 1
unfoldable pub loaded : List ℕ → ℕ → List ℕ → List ℕ
loaded m n b = sets (sets m (n * 16) (row b 0)) ((n + 1) * 16) (row b 1)

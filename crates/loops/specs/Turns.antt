-- Where the steps of a block lead whose sub-messages stand in one array, m.
-- Assumes nothing.
use Rattle.std.specs.Prelude.{◌≡◌, List, ℕ, ◌+◌, ◌≤◌, length, take}
use Rattle.lsh.specs.WordSize.{WordSize}
use Rattle.lsh.specs.Expansion.{sub_message}
use Rattle.lsh.specs.Block.{steps, unsteps, forward_steps, backward_steps}
use Rattle.loops.specs.Rows.{row, Expanded}

-- forward: with s steps every block whose M_0 to M_s stand in m leads from t to r
pub record RunTo (z : WordSize) (m : List ℕ) (s : ℕ) (t r : List ℕ) : Type 0 where
  pub chain : (b : List ℕ) → Expanded z b m s → r ≡ forward_steps z s b t

-- forward, with each sub-message worked out two steps before it is wanted: m₀ is the array before the first step; the steps 0 to j - 1 lead from t to r, and
-- M_0 to M_(j + 1) stand in m
pub record SteppedAhead (z : WordSize) (m₀ m : List ℕ) (j : ℕ) (t r : List ℕ) : Type 0 where
  pub len : length m ≡ length m₀
  pub rows : (i : ℕ) → i ≤ j + 1 → row m i ≡ sub_message z (take 32 m₀) i
  pub chain : r ≡ steps z (take 32 m₀) j t

-- backward, with j of s steps left: they lead from r to where the block leads from t
pub record RunBack (z : WordSize) (m : List ℕ) (s j : ℕ) (t r : List ℕ) : Type 0 where
  pub chain : (b : List ℕ) → Expanded z b m s → unsteps z b j r ≡ backward_steps z s b t

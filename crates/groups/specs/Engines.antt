-- Blocks, each run on the engine that is named beside it.
-- Assumes nothing.
use Rattle.std.specs.Prelude.{List, [], ◌∷◌, ℕ}
use Rattle.lsh.specs.WordSize.{WordSize}
use Rattle.lsh.specs.Block.{forward_steps, backward_steps}
use Rattle.groups.specs.GroupBlock.{forward_in_groups, backward_in_groups}

-- the first engine works word by word, and the second in groups of four words
pub data Engine : Type 0 where
  words : Engine
  groups : Engine

unfoldable pub forward_on : Engine → WordSize → ℕ → List ℕ → List ℕ → List ℕ
forward_on words z s b t = forward_steps z s b t
forward_on groups z s b t = forward_in_groups z s b t

unfoldable pub backward_on : Engine → WordSize → ℕ → List ℕ → List ℕ → List ℕ
backward_on words z s b t = backward_steps z s b t
backward_on groups z s b t = backward_in_groups z s b t

-- a block with its engine
pub record Run : Type 0 where
  pub engine : Engine
  pub block : List ℕ

unfoldable pub blocks_of_runs : List Run → List (List ℕ)
blocks_of_runs [] = []
blocks_of_runs (r ∷ rs) = r.block ∷ blocks_of_runs rs

-- forward in order, and backward from the last
unfoldable pub forwards_on : WordSize → ℕ → List Run → List ℕ → List ℕ
forwards_on z s [] t = t
forwards_on z s (r ∷ rs) t = forwards_on z s rs (forward_on r.engine z s r.block t)

unfoldable pub backwards_on : WordSize → ℕ → List Run → List ℕ → List ℕ
backwards_on z s [] t = t
backwards_on z s (r ∷ rs) t = backward_on r.engine z s r.block (backwards_on z s rs t)

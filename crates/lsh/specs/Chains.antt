-- The chain after so many blocks.
-- Assumes nothing.
use Rattle.std.specs.Prelude.{List, ℕ}
use Rattle.lsh.specs.WordSize.{WordSize}
use Rattle.lsh.specs.Block.{forwards}
use Rattle.lsh.specs.Padding.{first_blocks}

-- the chain that t reaches over the first k blocks of the byte string s
unfoldable pub chain_after : WordSize → List ℕ → List ℕ → ℕ → List ℕ
chain_after z t s k = forwards z (first_blocks z k s) t

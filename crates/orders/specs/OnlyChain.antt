-- The chain that a Rewind leads back to.
-- Assumes nothing.
use Rattle.std.specs.Prelude.{◌≡◌, List, ℕ}
use Rattle.lsh.specs.WordSize.{size_of}
use Rattle.lsh.specs.Block.{Chain, forwards}
use Rattle.lsh.specs.Padding.{blocks_of}
use Rattle.orders.specs.declared.Record.{Record}

-- c is the only chain from which the blocks of h lead to the chain of r
pub record OnlyChain (r : Record) (h c : List ℕ) : Type 0 where
  pub chain : Chain (size_of r.w) c
  pub leads : forwards (size_of r.w) (blocks_of (size_of r.w) h) c ≡ r.chain
  pub only : (d : List ℕ) → Chain (size_of r.w) d → forwards (size_of r.w) (blocks_of (size_of r.w) h) d ≡ r.chain → d ≡ c

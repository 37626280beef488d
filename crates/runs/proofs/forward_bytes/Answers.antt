-- `runs::forward_bytes` meets its contract, by the word size. Assumes nothing.
use mathlib.Core.Path.{refl, ap, ◌∙◌}
use native.Mathlib.Omega.{arith}
use Rattle.lsh.specs.WordSize.{chain_bytes}
use Rattle.lsh.specs.Block.{forwards}
use Rattle.lsh.proofs.Figures.{size_32, size_64}
use Rattle.runs.proofs.Sizes.{bytes-by}
use Rattle.runs.proofs.forward_bytes.Goals as goal

pub forward_bytes_at-requires : goal.forward_bytes_at-requires
forward_bytes_at-requires c = (omega arith, c.requires.1 ∙ ap chain_bytes (size_32 c.if-w-eq32.true))

pub forward_bytes_at-requires-else-w-eq32 : goal.forward_bytes_at-requires-else-w-eq32
forward_bytes_at-requires-else-w-eq32 c = (omega arith, c.requires.1 ∙ ap chain_bytes (size_64 _ c.requires.0 c.if-w-eq32.false))

pub returns-then-w-eq32 : goal.returns-then-w-eq32
returns-then-w-eq32 c = bytes-by forwards _ _ c.args.chain.now (size_32 c.if-w-eq32.true) refl refl c.forward_bytes_at.ensures

pub returns-else-w-eq32 : goal.returns-else-w-eq32
returns-else-w-eq32 c = bytes-by forwards _ _ c.args.chain.now (size_64 _ c.requires.0 c.if-w-eq32.false) refl refl c.forward_bytes_at-else-w-eq32.ensures

-- `runs::backward_bytes` meets its contract, by the word size. Assumes nothing.
use mathlib.Core.Path.{refl, ap, ◌∙◌}
use native.Mathlib.Omega.{arith}
use Rattle.lsh.specs.WordSize.{chain_bytes}
use Rattle.lsh.specs.Block.{backwards}
use Rattle.lsh.proofs.Figures.{size_32, size_64}
use Rattle.runs.proofs.Sizes.{bytes-by}
use Rattle.runs.proofs.backward_bytes.Goals as goal

pub backward_bytes_at-requires : goal.backward_bytes_at-requires
backward_bytes_at-requires c = (omega arith, c.requires.1 ∙ ap chain_bytes (size_32 c.if-w-eq32.true))

pub backward_bytes_at-requires-else-w-eq32 : goal.backward_bytes_at-requires-else-w-eq32
backward_bytes_at-requires-else-w-eq32 c = (omega arith, c.requires.1 ∙ ap chain_bytes (size_64 _ c.requires.0 c.if-w-eq32.false))

pub returns-then-w-eq32 : goal.returns-then-w-eq32
returns-then-w-eq32 c = bytes-by backwards _ _ c.args.chain.now (size_32 c.if-w-eq32.true) refl refl c.backward_bytes_at.ensures

pub returns-else-w-eq32 : goal.returns-else-w-eq32
returns-else-w-eq32 c = bytes-by backwards _ _ c.args.chain.now (size_64 _ c.requires.0 c.if-w-eq32.false) refl refl c.backward_bytes_at-else-w-eq32.ensures

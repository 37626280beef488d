use Rattle.lsh.specs.WordSize.{lsh256, lsh512, chain_bytes}
use Rattle.runs.proofs.Sizes.{figure-64, figure-other}
use Rattle.runs.proofs.chain_bytes.Goals as goal

pub returns-then-w-eq64 : goal.returns-then-w-eq64
unfolding lsh256 lsh512 chain_bytes
returns-then-w-eq64 c = figure-64 chain_bytes _ c.if-w-eq64.true

pub returns : goal.returns
unfolding lsh256 lsh512 chain_bytes
returns c = figure-other chain_bytes _ c.if-w-eq64.false

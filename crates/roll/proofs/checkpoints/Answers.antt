-- `roll::checkpoints` visits its contract. Assumes nothing.
use Rattle.lsh.proofs.Figures.{block-some}
use Rattle.checkpoints.specs.Roll.{checkpoints}
use Rattle.roll.proofs.checkpoints.Goals as goal

pub nonzero_div-result : goal.nonzero_div-result
unfolding checkpoints
nonzero_div-result c = rw c.block_bytes.ensures (block-some c.args.w)

pub returns : goal.returns
unfolding checkpoints
returns c = rw c.block_bytes.ensures

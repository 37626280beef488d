use Rattle.lsh.proofs.Figures.{block-some}
use Rattle.record.proofs.held_length.Goals as goal

pub nonzero_rem-result : goal.nonzero_rem-result
nonzero_rem-result c = rw c.block_bytes.ensures (block-some _)

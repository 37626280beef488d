use Rattle.lsh.proofs.Figures.{block-some}
use Rattle.split_rewind.proofs.no_block.Goals as goal

pub nonzero_div-result : goal.nonzero_div-result
nonzero_div-result c = rw c.block_bytes-b.ensures (block-some _)

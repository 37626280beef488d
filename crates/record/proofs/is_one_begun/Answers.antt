use Rattle.lsh.proofs.Figures.{block-some}
use Rattle.record.proofs.is_one_begun.Goals as goal

pub nonzero_div-total : goal.nonzero_div-total
nonzero_div-total c = rw c.block_bytes-b.ensures (block-some _)

use Rattle.lsh.specs.WordSize.{size_of}
use Rattle.roll.proofs.Sizes.{slot-some}
use Rattle.roll.proofs.slot_count.Goals as goal

pub nonzero_div-result : goal.nonzero_div-result
nonzero_div-result c = rw c.slot_bytes.ensures (slot-some (size_of c.args.w))

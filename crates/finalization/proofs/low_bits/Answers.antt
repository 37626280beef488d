use Rattle.finalization.proofs.LastByte.{low}
use Rattle.finalization.proofs.low_bits.Goals as goal

pub returns : goal.returns
returns c = low _ _ c.requires

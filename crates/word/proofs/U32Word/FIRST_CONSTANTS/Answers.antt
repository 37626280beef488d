use Rattle.std.proofs.Common.{refl}
use Rattle.lsh.specs.WordSize.{lsh256}
use Rattle.word.proofs.U32Word.FIRST_CONSTANTS.Goals as goal

pub returns : goal.returns
unfolding lsh256
returns c = refl

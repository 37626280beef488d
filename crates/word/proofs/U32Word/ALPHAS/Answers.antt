use Rattle.std.proofs.Common.{refl}
use Rattle.lsh.specs.WordSize.{lsh256}
use Rattle.word.proofs.U32Word.ALPHAS.Goals as goal

pub returns : goal.returns
unfolding lsh256
returns c = refl

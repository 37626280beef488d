use Rattle.std.proofs.Common.{refl}
use Rattle.lsh.specs.WordSize.{lsh512}
use Rattle.word.proofs.U64Word.GAMMAS.Goals as goal

pub returns : goal.returns
unfolding lsh512
returns c = refl

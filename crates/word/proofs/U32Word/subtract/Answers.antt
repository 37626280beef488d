use Rattle.std.proofs.Common.{refl}
use Rattle.lsh.specs.Word.{subtract}
use Rattle.lsh.specs.WordSize.{lsh256}
use Rattle.word.proofs.U32Word.subtract.Goals as goal

pub returns : goal.returns
unfolding subtract lsh256
returns c = refl

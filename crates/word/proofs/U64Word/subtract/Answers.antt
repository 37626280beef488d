use Rattle.std.proofs.Common.{refl}
use Rattle.lsh.specs.Word.{subtract}
use Rattle.lsh.specs.WordSize.{lsh512}
use Rattle.word.proofs.U64Word.subtract.Goals as goal

pub returns : goal.returns
unfolding subtract lsh512
returns c = refl

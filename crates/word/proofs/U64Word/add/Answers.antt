use Rattle.std.proofs.Common.{refl}
use Rattle.lsh.specs.Word.{add}
use Rattle.lsh.specs.WordSize.{lsh512}
use Rattle.word.proofs.U64Word.add.Goals as goal

pub returns : goal.returns
unfolding add lsh512
returns c = refl

use Rattle.std.proofs.Common.{refl}
use Rattle.lsh.specs.Word.{add}
use Rattle.lsh.specs.WordSize.{lsh256}
use Rattle.word.proofs.U32Word.add.Goals as goal

pub returns : goal.returns
unfolding add lsh256
returns c = refl

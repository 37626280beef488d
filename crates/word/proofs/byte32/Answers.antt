use Rattle.std.proofs.Common.{refl}
use Rattle.lsh.specs.Bytes.{byte_at}
use Rattle.word.proofs.byte32.Goals as goal

pub returns : goal.returns
unfolding byte_at
returns c = refl

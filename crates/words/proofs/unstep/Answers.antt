use Rattle.lsh.specs.Step.{unstep}
use Rattle.words.proofs.unstep.Goals as goal

pub returns : goal.returns
unfolding unstep
returns g c = cc

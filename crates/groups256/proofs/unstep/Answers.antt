use Rattle.lsh.specs.Step.{unstep}
use Rattle.groups256.proofs.unstep.Goals as goal

pub returns : goal.returns
unfolding unstep
returns c = rw (c.add_message.ensures, c.unmix.ensures, c.unpermute.ensures)

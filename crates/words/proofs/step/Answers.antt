use Rattle.lsh.specs.Step.{step}
use Rattle.words.proofs.step.Goals as goal

pub returns : goal.returns
unfolding step
returns g c = rw (c.permute.ensures, c.mix.ensures, c.add_message.ensures)

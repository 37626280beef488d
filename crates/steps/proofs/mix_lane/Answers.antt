use Rattle.lsh.specs.Lane.{mix_lane}
use Rattle.steps.proofs.mix_lane.Goals as goal

pub returns : goal.returns
unfolding mix_lane
returns g c = rw (c.rotate_left-2.ensures, c.add-3.ensures, c.rotate_left-y1.ensures, c.add-2.ensures, c.exclusive_or-x1.ensures, c.rotate_left.ensures, c.add.ensures)

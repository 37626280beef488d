use Rattle.lsh.specs.Lane.{unmix_lane}
use Rattle.steps.proofs.unmix_lane.Goals as goal

pub returns : goal.returns
unfolding unmix_lane
returns g c = rw (c.subtract.ensures, c.rotate_right-2.ensures, c.exclusive_or.ensures, c.subtract-y0.ensures, c.rotate_right.ensures, c.subtract-x1.ensures, c.rotate_right-y1.ensures)

use Rattle.lsh.proofs.Figures.{amounts512}
use Rattle.mix512.proofs.unmix_word.Goals as goal

pub unmix_lane-requires : goal.unmix_lane-requires
unmix_lane-requires c = (rw c.alpha.ensures (amounts512.α _), rw c.beta.ensures (amounts512.β _), c.requires.0)

pub returns : goal.returns
returns c = rw (c.unmix_lane.ensures, c.beta.ensures, c.alpha.ensures)

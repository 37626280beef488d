use Rattle.lsh.proofs.Figures.{amounts512}
use Rattle.mix512.proofs.mix_word.Goals as goal

pub mix_lane-requires : goal.mix_lane-requires
mix_lane-requires c = (rw c.alpha.ensures (amounts512.α _), rw c.beta.ensures (amounts512.β _), c.requires.0)

pub returns : goal.returns
returns c = rw (c.mix_lane.ensures, c.beta.ensures, c.alpha.ensures)

use Rattle.loops.specs.Rows.{row}
use Rattle.words.proofs.sub_message.Goals as goal

pub returns : goal.returns
unfolding row
returns g c = c.part.ensures

use Rattle.loops.specs.Halves.{loaded}
use Rattle.ahead256.proofs.load.Goals as goal

pub returns : goal.returns
unfolding loaded
returns c = rw (c.put_sub_message-2.ensures, c.load_row-2.ensures, c.put_sub_message.ensures, c.load_row.ensures)

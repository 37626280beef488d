use Rattle.lsh.specs.Tabulate.{tabulate, tabulate_from}
use Rattle.groups.specs.Group.{each_word}
use Rattle.mix256.proofs.turn_each.Goals as goal

pub returns : goal.returns
unfolding each_word tabulate tabulate_from
returns c = (rw (c.turn-4.ensures.0, c.turn-3.ensures.0, c.turn-2.ensures.0, c.turn.ensures.0), rw (c.turn-4.ensures.1, c.turn-3.ensures.1, c.turn-2.ensures.1, c.turn.ensures.1))

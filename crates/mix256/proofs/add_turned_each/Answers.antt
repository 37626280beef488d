use Rattle.lsh.specs.Tabulate.{tabulate, tabulate_from}
use Rattle.groups.specs.Group.{each_word, wordwise}
use Rattle.mix256.proofs.add_turned_each.Goals as goal

pub returns : goal.returns
unfolding each_word wordwise tabulate tabulate_from
returns c = rw (c.add_turned-4.ensures, c.add_turned-3.ensures, c.add_turned-2.ensures, c.add_turned.ensures)

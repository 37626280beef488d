use Rattle.lsh.specs.Tabulate.{tabulate, tabulate_from}
use Rattle.groups.specs.Group.{wordwise}
use Rattle.lsh.specs.WordSize.{lsh256}
use Rattle.mix256.proofs.add.Goals as goal

pub returns : goal.returns
unfolding wordwise tabulate tabulate_from lsh256
returns c = rw (c.add-4.ensures, c.add-3.ensures, c.add-2.ensures, c.add.ensures)

use Rattle.lsh.specs.Tabulate.{tabulate, tabulate_from}
use Rattle.groups.specs.Group.{wordwise}
use Rattle.lsh.specs.WordSize.{lsh256}
use Rattle.mix256.proofs.subtract.Goals as goal

pub returns : goal.returns
unfolding wordwise tabulate tabulate_from lsh256
returns c = rw (c.subtract-4.ensures, c.subtract-3.ensures, c.subtract-2.ensures, c.subtract.ensures)

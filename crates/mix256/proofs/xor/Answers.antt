use Rattle.lsh.specs.Tabulate.{tabulate, tabulate_from}
use Rattle.groups.specs.Group.{wordwise}
use Rattle.lsh.specs.WordSize.{lsh256}
use Rattle.mix256.proofs.xor.Goals as goal

pub returns : goal.returns
unfolding wordwise tabulate tabulate_from lsh256
returns c = rw (c.exclusive_or-4.ensures, c.exclusive_or-3.ensures, c.exclusive_or-2.ensures, c.exclusive_or.ensures)

use Rattle.mix256.proofs.Amounts.{next-shifts-are}
use Rattle.lsh.specs.WordSize.{lsh256}
use Rattle.mix256.proofs.next_shifts.Goals as goal

pub returns : goal.returns
unfolding lsh256
returns c j e = rw (c.subtract-4.ensures, c.subtract-3.ensures, c.subtract-2.ensures, c.subtract.ensures) (next-shifts-are j e)

use mathlib.Core.Path.{◌≡◌}
use native.Mathlib.Omega.{arith}
use Rattle.lsh.specs.Tabulate.{tabulate, tabulate_from}
use Rattle.lsh.specs.WordSize.{lsh512, gamma}
use Rattle.groups.specs.Group.{group}
use Rattle.mix512.proofs.gamma.Goals as goal

pub returns-then-l-eq0 : goal.returns-then-l-eq0
unfolding lsh512 gamma group tabulate tabulate_from
returns-then-l-eq0 c = let first : c.args.l ≡ 0 = omega arith in rw first

pub returns : goal.returns
unfolding lsh512 gamma group tabulate tabulate_from
returns c = let second : c.args.l ≡ 1 = omega arith in rw second

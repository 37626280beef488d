-- `mix256::back_powers` meets its contract: the rule of the powers, computed over the whole array. Assumes nothing.
use mathlib.Core.Path.{refl}
use Rattle.lsh.specs.Tabulate.{tabulate, tabulate_from}
use Rattle.lsh.specs.WordSize.{lsh256, gamma}
use Rattle.mix256.specs.Amounts.{remaining, powers}
use Rattle.mix256.proofs.back_powers.Goals as goal

pub returns : goal.returns
unfolding powers remaining gamma lsh256 tabulate tabulate_from
returns c = refl

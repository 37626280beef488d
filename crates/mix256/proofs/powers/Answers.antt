-- `mix256::powers` meets its contract: the rule of the powers, computed over the whole array. Assumes nothing.
use mathlib.Core.Path.{refl}
use Rattle.lsh.specs.Tabulate.{tabulate, tabulate_from}
use Rattle.lsh.specs.WordSize.{lsh256, beta, gamma}
use Rattle.mix256.specs.Amounts.{beta_gamma, powers}
use Rattle.mix256.proofs.powers.Goals as goal

pub returns : goal.returns
unfolding powers beta_gamma beta gamma lsh256 tabulate tabulate_from
returns c = refl

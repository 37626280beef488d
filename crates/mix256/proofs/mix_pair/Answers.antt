use Rattle.lsh.specs.WordSize.{lsh256}
use Rattle.lsh.proofs.Figures.{amounts256}
use Rattle.groups.specs.GroupStep.{mix_pair}
use Rattle.mix256.specs.Amounts.{beta_gamma}
use Rattle.mix256.proofs.Amounts.{Shifts, shifts-are, sums-below, beta-gamma-less, beta-gamma-is}
use Rattle.mix256.proofs.mix_pair.Goals as goal
use Rattle.mix256.proofs.mix_pair.Goals.{Start}

-- the shifts are those of the step
module _ (z : Start) where
  k : Shifts z.args.j z.args.k
  k = shifts-are z.args.j z.requires.2

pub xor_turned_each-x1-requires : goal.xor_turned_each-x1-requires
unfolding lsh256 mix_pair
xor_turned_each-x1-requires c = (k c.before).α-turn

pub add_turned_each-requires : goal.add_turned_each-requires
unfolding lsh256 mix_pair
add_turned_each-requires c = (k c.before.before.before).β-turn

pub returns : goal.returns
unfolding lsh256 mix_pair
returns c = let z = c.before.before.before.before.before in
    rw (
      c.turn_by_powers.ensures (beta_gamma lsh256) beta-gamma-less z.requires.1,
      beta-gamma-is lsh256 amounts256 z.args.j z.args.l _ (sums-below 32 _ _ c.add-y1.ensures),
      c.add_turned_each.ensures,
      c.add-y1.ensures,
      c.xor_turned_each-x1.ensures,
      c.add.ensures,
      z.requires.0,
      (k z).α,
      (k z).β,
    )

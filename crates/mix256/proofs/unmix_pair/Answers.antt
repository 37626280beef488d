use Prim.Native.Nat.{◌%◌}
use borrow.Author.Rules.{elem_Fits}
use mir.Syntax.{w32}
use Rattle.lsh.specs.WordSize.{lsh256}
use Rattle.lsh.proofs.Figures.{amounts256}
use Rattle.groups.specs.GroupStep.{unmix_pair}
use Rattle.mix256.specs.Amounts.{remaining}
use Rattle.mix256.proofs.Amounts.{Shifts, shifts-are, turn-back, remaining-less, remaining-is}
use Rattle.mix256.proofs.unmix_pair.Goals as goal
use Rattle.mix256.proofs.unmix_pair.Goals.{Start}

-- the shifts are those of the step
module _ (z : Start) where
  k : Shifts z.args.j z.args.k
  k = shifts-are z.args.j z.requires.2

pub turn_each-requires : goal.turn_each-requires
unfolding lsh256 unmix_pair
turn_each-requires c = turn-back (k c.before.before).β-turn

pub turn_each-requires-2 : goal.turn_each-requires-2
unfolding lsh256 unmix_pair
turn_each-requires-2 c = turn-back (k c.before.before.before.before.before).α-turn

pub returns : goal.returns
unfolding lsh256 unmix_pair
returns c = let z = c.before.before.before.before.before.before.before in
    rw (
      c.subtract.ensures,
      c.turn_each-2.ensures.1,
      c.xor.ensures,
      c.subtract-y0.ensures,
      c.turn_each.ensures.1,
      c.subtract-x1.ensures,
      c.turn_by_powers-y1.ensures (remaining lsh256) remaining-less z.requires.1,
      remaining-is lsh256 amounts256 (z.args.j % 4) z.args.l z.args.y (λ i. (elem_Fits w32 w32 z.args.y _ i z.well_formed.1.1.1.1.1.1.0.1.1 tt).fits),
      z.requires.0,
      (k z).α,
      (k z).β,
    )

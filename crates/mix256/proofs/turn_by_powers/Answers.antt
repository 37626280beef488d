use mathlib.Core.Path.{refl}
use Prim.Native.Nat.{ℕ, ◌+◌, ◌*◌, ◌%◌}
use native.Mathlib.Omega.{arith}
use Rattle.lsh.specs.Tabulate.{tabulate, tabulate_from}
use Rattle.groups.specs.Group.{group, wordwise}
use Rattle.loops.proofs.Places.{placed-none, filled_more, filled-all}
use Rattle.mix256.proofs.Amounts.{at-powers}
use Rattle.mix256.proofs.turn_by_powers.Goals as goal

pub loop-i-init : goal.loop-i-init
unfolding wordwise group tabulate tabulate_from
loop-i-init c f below is = placed-none 4 _ _ _

pub loop-i-preserved : goal.loop-i-preserved
unfolding wordwise group tabulate tabulate_from
loop-i-preserved c f below is = let l : ℕ = c.args.l in
    let i : ℕ = c.loop-i.i in
    let step : ℕ = c.args.j % 4 in
    filled_more _ (c.loop-i.invariant f below is) c.loop-i-test.true (omega arith)
    (c.turn_by_power.ensures (f step (4 * l + i)) (below _ _) (at-powers f _ is _ step (4 * l + i) (omega arith) (omega arith) (omega arith)))

pub returns : goal.returns
unfolding wordwise group tabulate tabulate_from
returns c f below is = filled-all (c.loop-i.invariant f below is) c.loop-i-test.false refl

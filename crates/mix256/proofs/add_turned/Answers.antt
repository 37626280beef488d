use mathlib.Core.Path.{◌≡◌}
use Prim.Native.Nat.{◌-◌}
use native.Mathlib.Omega.{arith}
use Rattle.loops.proofs.Machine.{add_left}
use Rattle.lsh.specs.WordSize.{lsh256}
use Rattle.mix256.proofs.add_turned.Goals as goal

pub returns : goal.returns
unfolding lsh256
returns c = let rest : c.args.h ≡ 32 - c.args.l = omega arith in
    rw (c.add-2.ensures, c.add.ensures, rest) (add_left 32 c.args.l c.args.u c.args.x (omega arith))

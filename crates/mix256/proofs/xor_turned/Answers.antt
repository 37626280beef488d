use mathlib.Core.Path.{◌≡◌}
use Prim.Native.Nat.{◌-◌}
use native.Mathlib.Omega.{arith}
use borrow.Author.Rules.{rules}
use Rattle.loops.proofs.Machine.{xor-left}
use Rattle.lsh.specs.WordSize.{lsh256}
use Rattle.mix256.proofs.xor_turned.Goals as goal

pub returns : goal.returns
unfolding lsh256
returns c = let rest : c.args.h ≡ 32 - c.args.l = omega arith in
    rw (c.exclusive_or-2.ensures, c.exclusive_or.ensures, rest) (xor-left 32 c.args.l c.args.u c.args.c (omega arith) (search rules))

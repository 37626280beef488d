use mathlib.Core.Path.{◌≡◌}
use Prim.Native.Nat.{◌%◌}
use native.Mathlib.Omega.{arith}
use Rattle.lsh.specs.WordSize.{lsh512, beta}
use Rattle.mix512.proofs.beta.Goals as goal

pub returns-then-j-eq0 : goal.returns-then-j-eq0
unfolding lsh512 beta
returns-then-j-eq0 c = let even : c.args.j % 2 ≡ 0 = omega arith in rw even

pub returns : goal.returns
unfolding lsh512 beta
returns c = let odd : c.args.j % 2 ≡ 1 = omega arith in rw odd

use mathlib.Core.Path.{refl}
use native.Mathlib.Omega.{arith}
use Rattle.lsh.specs.WordSize.{lsh256}
use Rattle.groups256.proofs.step_constants.Goals as goal

pub write_constants-requires : goal.write_constants-requires
unfolding lsh256
write_constants-requires c = (omega arith, (refl, refl))

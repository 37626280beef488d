use mathlib.Core.Path.{refl}
use native.Mathlib.Omega.{arith}
use Rattle.lsh.specs.WordSize.{lsh512}
use Rattle.runs.proofs.engines.step_constants.Goals as goal

pub write_constants-requires : goal.write_constants-requires
unfolding lsh512
write_constants-requires c = (omega arith, (refl, refl))

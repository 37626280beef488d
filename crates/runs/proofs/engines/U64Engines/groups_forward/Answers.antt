use mathlib.Core.Path.{refl}
use native.Mathlib.Omega.{arith}
use Rattle.lsh.specs.WordSize.{lsh512}
use Rattle.loops.specs.Rows.{expanded_words}
use Rattle.runs.proofs.engines.U64Engines.groups_forward.Goals as goal

pub forward-requires : goal.forward-requires
unfolding lsh512 expanded_words
forward-requires c = (omega arith, (omega arith, (refl, refl, c.requires.0, c.requires.1)))

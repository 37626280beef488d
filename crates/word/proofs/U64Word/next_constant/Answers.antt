use mathlib.Core.Path.{◌∙◌}
use native.Mathlib.Omega.{arith}
use Rattle.lsh.specs.WordSize.{lsh512}
use Rattle.lsh.proofs.Word.{add-lt}
use Rattle.loops.specs.Constants.{next_constant}
use Rattle.loops.proofs.Machine.{add_is, add_left}
use Rattle.word.proofs.U64Word.next_constant.Goals as goal

pub returns : goal.returns
unfolding lsh512 next_constant
returns c = let x = c.args.self in rw (c.subtract-2.ensures, c.subtract.ensures, c.add-low.ensures) (add_is 64 _ _ (add-lt 64 _ _) ∙ add_left 64 8 x x (omega arith))

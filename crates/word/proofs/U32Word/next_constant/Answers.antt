use native.Mathlib.Omega.{arith}
use Rattle.lsh.specs.WordSize.{lsh256}
use Rattle.loops.specs.Constants.{next_constant}
use Rattle.loops.proofs.Machine.{add_left}
use Rattle.word.proofs.U32Word.next_constant.Goals as goal

pub returns : goal.returns
unfolding lsh256 next_constant
returns c = rw (c.add-2.ensures, c.add.ensures) (add_left 32 8 c.args.self c.args.self (omega arith))

use borrow.Author.Rules.{rules}
use Rattle.loops.proofs.Machine.{turned-is}
use Rattle.mix256.proofs.turn.Goals as goal

pub returns : goal.returns
returns c = turned-is 32 c.args.l c.args.h c.args.x c.requires.2 (search rules)

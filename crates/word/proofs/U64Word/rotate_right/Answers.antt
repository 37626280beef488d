use Rattle.std.proofs.Common.{arith, rules}
use Rattle.lsh.specs.WordSize.{lsh512}
use Rattle.loops.proofs.Machine.{right_is, right-none}
use Rattle.word.proofs.U64Word.rotate_right.Goals as goal

pub returns-then-k-eq0 : goal.returns-then-k-eq0
unfolding lsh512
returns-then-k-eq0 c = right-none 64 c.args.k c.args.self c.if-k-eq0.true (search rules)

pub overflow_shr-result : goal.overflow_shr-result
unfolding lsh512
overflow_shr-result c = omega arith

pub overflow_sub-result : goal.overflow_sub-result
unfolding lsh512
overflow_sub-result c = omega arith

pub returns : goal.returns
unfolding lsh512
returns c = right_is 64 c.args.k c.args.self (omega arith) (search rules)

use Rattle.std.proofs.Common.{arith, rules}
use Rattle.lsh.specs.WordSize.{lsh256}
use Rattle.loops.proofs.Machine.{right_is, right-none}
use Rattle.word.proofs.U32Word.rotate_right.Goals as goal

pub returns-then-k-eq0 : goal.returns-then-k-eq0
unfolding lsh256
returns-then-k-eq0 c = right-none 32 c.args.k c.args.self c.if-k-eq0.true (search rules)

pub overflow_shr-result : goal.overflow_shr-result
unfolding lsh256
overflow_shr-result c = omega arith

pub overflow_sub-result : goal.overflow_sub-result
unfolding lsh256
overflow_sub-result c = omega arith

pub returns : goal.returns
unfolding lsh256
returns c = right_is 32 c.args.k c.args.self (omega arith) (search rules)

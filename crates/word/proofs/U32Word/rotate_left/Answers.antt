use Rattle.std.proofs.Common.{arith, rules}
use Rattle.lsh.specs.WordSize.{lsh256}
use Rattle.loops.proofs.Machine.{left_is, left-none}
use Rattle.word.proofs.U32Word.rotate_left.Goals as goal

pub returns-then-k-eq0 : goal.returns-then-k-eq0
unfolding lsh256
returns-then-k-eq0 c = left-none 32 c.args.k c.args.self c.if-k-eq0.true (search rules)

pub overflow_shl-result : goal.overflow_shl-result
unfolding lsh256
overflow_shl-result c = omega arith

pub overflow_sub-result : goal.overflow_sub-result
unfolding lsh256
overflow_sub-result c = omega arith

pub returns : goal.returns
unfolding lsh256
returns c = left_is 32 c.args.k c.args.self (omega arith) (search rules)

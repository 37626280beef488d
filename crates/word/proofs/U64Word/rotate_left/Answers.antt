use Rattle.std.proofs.Common.{arith, rules}
use Rattle.lsh.specs.WordSize.{lsh512}
use Rattle.loops.proofs.Machine.{left_is, left-none}
use Rattle.word.proofs.U64Word.rotate_left.Goals as goal

pub returns-then-k-eq0 : goal.returns-then-k-eq0
unfolding lsh512
returns-then-k-eq0 c = left-none 64 c.args.k c.args.self c.if-k-eq0.true (search rules)

pub overflow_shl-result : goal.overflow_shl-result
unfolding lsh512
overflow_shl-result c = omega arith

pub overflow_sub-result : goal.overflow_sub-result
unfolding lsh512
overflow_sub-result c = omega arith

pub returns : goal.returns
unfolding lsh512
returns c = left_is 64 c.args.k c.args.self (omega arith) (search rules)

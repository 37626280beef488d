use Rattle.lsh.specs.Tabulate.{at}
use Rattle.lsh.specs.Word.{xor}
use Rattle.loops.proofs.Places.{Placed}
use Rattle.limits.specs.Limits.{longest_block}
use Rattle.hmac.proofs.xor_each.Given as goal

abbrev pub invariant-loop-byte : goal.invariant-loop-byte
invariant-loop-byte l = Placed longest_block (λ k. k) (λ k. xor 8 (at l.fn.block k) l.x) l.fn.block l.byte-items l.byte-index

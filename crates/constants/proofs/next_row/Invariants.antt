use Rattle.lsh.specs.Tabulate.{at}
use Rattle.loops.specs.Constants.{next_constant}
use Rattle.loops.proofs.Places.{Placed}
use Rattle.constants.proofs.next_row.Given as goal

abbrev pub invariant-loop-l : goal.invariant-loop-l
invariant-loop-l g l = let w = g.W.Word in Placed 8 (λ k. k) (λ k. next_constant w.size (at (w.numbers l.p) k)) (w.numbers l.initial.r) (w.numbers l.r) l.l

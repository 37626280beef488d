use Rattle.lsh.specs.Tabulate.{at}
use Rattle.lsh.specs.WordSize.{sigma}
use Rattle.loops.proofs.Places.{Placed}
use Rattle.steps.proofs.permute.Given as goal

abbrev pub invariant-loop-l : goal.invariant-loop-l
invariant-loop-l g l =
    let w = g.W.Word in
    Placed 16 (λ k. k) (λ k. at (w.numbers l.t) (at Rattle.lsh.specs.WordSize.sigma k)) (w.numbers l.initial.r) (w.numbers l.r) l.l

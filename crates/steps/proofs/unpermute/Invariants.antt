use Rattle.lsh.specs.Tabulate.{at}
use Rattle.lsh.specs.WordSize.{sigma}
use Rattle.loops.proofs.Places.{Placed}
use Rattle.steps.proofs.unpermute.Given as goal

abbrev pub invariant-loop-l : goal.invariant-loop-l
invariant-loop-l g l =
    let w = g.W.Word in
    Placed 16 (at Rattle.lsh.specs.WordSize.sigma) (at (w.numbers l.t)) (w.numbers l.initial.r) (w.numbers l.r) l.l

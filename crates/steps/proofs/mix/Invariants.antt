use Rattle.lsh.specs.Step.{mixed_lane}
use Rattle.loops.proofs.Lanes.{Laned}
use Rattle.steps.proofs.mix.Given as goal

abbrev pub invariant-loop-l : goal.invariant-loop-l
invariant-loop-l g l = let w = g.W.Word in Laned (mixed_lane w.size l.j (w.numbers l.t)) (w.numbers l.r) l.l

use Prim.Native.Nat.{◌-◌}
use Rattle.lsh.specs.Tabulate.{at}
use Rattle.loops.proofs.Places.{Placed}
use Rattle.runs.proofs.narrow.Given as goal

abbrev pub invariant-loop-l : goal.invariant-loop-l
invariant-loop-l l = Placed 16 (λ k. k) (at l.t) l.initial.r l.r l.l

abbrev pub decreases-loop-l : goal.decreases-loop-l
decreases-loop-l l = 16 - l.l

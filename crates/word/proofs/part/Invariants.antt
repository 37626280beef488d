use Prim.Native.Nat.{◌+◌}
use Rattle.lsh.specs.Tabulate.{at}
use Rattle.loops.proofs.Places.{Placed}
use Rattle.word.proofs.part.Given as goal

abbrev pub invariant-loop-l : goal.invariant-loop-l
invariant-loop-l g l = let w = g.W.Word in Placed g.row.N (λ k. k) (λ k. at (w.numbers l.m) (l.a + k)) (w.numbers l.initial.r) (w.numbers l.r) l.l

use Prim.Native.Nat.{◌+◌, ◌≤◌}
use lib.ListN.{length}
use Rattle.lsh.specs.Tabulate.{at}
use Rattle.loops.proofs.Places.{Placed}
use Rattle.word.proofs.put.Given as goal

abbrev pub invariant-loop-l : goal.invariant-loop-l
invariant-loop-l g l =
    let w = g.W.Word in
    Placed g.row.N (λ k. l.a + k) (at (w.numbers l.r)) (w.numbers l.initial.m) (w.numbers l.m) l.l × (l.a + g.row.N ≤ length (w.numbers l.initial.m))

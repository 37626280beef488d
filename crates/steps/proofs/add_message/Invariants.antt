use Rattle.lsh.specs.Tabulate.{at}
use Rattle.lsh.specs.Word.{xor}
use Rattle.loops.proofs.Places.{Placed}
use Rattle.steps.proofs.add_message.Given as goal

abbrev pub invariant-loop-l : goal.invariant-loop-l
invariant-loop-l g l =
    let w = g.W.Word in
    Placed 16 (λ k. k) (λ k. xor w.size.bits (at (w.numbers l.t) k) (at (w.numbers l.m) k)) (w.numbers l.initial.r) (w.numbers l.r) l.l

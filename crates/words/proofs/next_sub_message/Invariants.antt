use Rattle.lsh.specs.Tabulate.{at}
use Rattle.lsh.specs.Word.{add}
use Rattle.lsh.specs.WordSize.{tau}
use Rattle.loops.proofs.Places.{Placed}
use Rattle.words.proofs.next_sub_message.Given as goal

abbrev pub invariant-loop-l : goal.invariant-loop-l
invariant-loop-l g l =
    let w = g.W.Word in
    Placed 16 (λ k. k) (λ k. add w.size.bits (at (w.numbers l.p) k) (at (w.numbers l.q) (at Rattle.lsh.specs.WordSize.tau k))) (w.numbers l.initial.r) (w.numbers l.r) l.l

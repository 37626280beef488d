use Prim.Native.Nat.{◌*◌}
use Rattle.lsh.specs.WordSize.{word_bytes}
use Rattle.lsh.specs.Bytes.{word_at}
use Rattle.loops.proofs.Places.{Placed}
use Rattle.words.proofs.load_chain.Given as goal

abbrev pub invariant-loop-l : goal.invariant-loop-l
invariant-loop-l g l =
    let w = g.W.Word in
    Placed 16 (λ k. k) (λ k. word_at (word_bytes w.size) l.s (k * word_bytes w.size)) (w.numbers l.initial.r) (w.numbers l.r) l.l

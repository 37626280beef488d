use Prim.Native.Nat.{◌*◌, ◌≤◌}
use lib.ListN.{length}
use Rattle.lsh.specs.WordSize.{word_bytes}
use Rattle.lsh.specs.Bytes.{word_at}
use Rattle.loops.proofs.Places.{Placed}
use Rattle.words.proofs.load_block.Given as goal

abbrev pub invariant-loop-l : goal.invariant-loop-l
invariant-loop-l g l =
    let w = g.W.Word in
    Placed 32 (λ k. k) (λ k. word_at (word_bytes w.size) l.s (k * word_bytes w.size)) (w.numbers l.initial.m) (w.numbers l.m) l.l × (32 ≤ length (w.numbers l.initial.m))

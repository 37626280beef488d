use mathlib.Core.Path.{◌≡◌}
use Prim.Native.Nat.{◌/◌}
use lib.ListN.{length}
use Rattle.lsh.specs.WordSize.{block_bytes}
use Rattle.loops.specs.Rows.{expanded_words}
use Rattle.loops.proofs.Runs.{RunBackward}
use Rattle.words.proofs.backward.Given as goal

abbrev pub invariant-loop-k : goal.invariant-loop-k
invariant-loop-k g l =
    let w = g.W.Word in
    let n = length l.s / block_bytes w.size in
    RunBackward w.size l.steps n l.s (w.numbers l.initial.c) (w.numbers l.c) l.count l.k × (length l.m ≡ expanded_words w.size)

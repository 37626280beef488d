use mathlib.Core.Path.{◌≡◌}
use Prim.Native.Nat.{◌/◌}
use lib.ListN.{length}
use Rattle.lsh.specs.WordSize.{block_bytes}
use Rattle.loops.specs.Rows.{expanded_words}
use Rattle.loops.proofs.Runs.{RunForward}
use Rattle.words.proofs.forward.Given as goal

abbrev pub invariant-loop-k : goal.invariant-loop-k
invariant-loop-k g l =
    let w = g.W.Word in
    RunForward w.size l.steps (length l.s / block_bytes w.size) l.s (w.numbers l.initial.c) (w.numbers l.c) l.k × (length l.m ≡ expanded_words w.size) × (l.count ≡ l.k)

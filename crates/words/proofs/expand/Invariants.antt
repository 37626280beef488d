use mathlib.Core.Path.{◌≡◌}
use Prim.Native.Nat.{◌+◌}
use lib.ListN.{length, take}
use Rattle.lsh.specs.Expansion.{sub_message}
use Rattle.loops.specs.Rows.{expanded_words, Expanded}
use Rattle.words.proofs.expand.Given as goal

abbrev pub invariant-loop-j : goal.invariant-loop-j
invariant-loop-j g l =
    let w = g.W.Word in
    let b = take 32 (w.numbers l.initial.m) in
    Expanded w.size b (w.numbers l.m) (l.j + 1) × (w.numbers l.p ≡ sub_message w.size b (l.j + 1)) × (w.numbers l.q ≡ sub_message w.size b l.j) × (length (w.numbers l.initial.m) ≡ expanded_words w.size)

use mathlib.Core.List.{List}
use Prim.Native.Nat.{ℕ, ◌*◌, ◌≤◌}
use Rattle.loops.specs.Turns.{RunBack}
use Rattle.words.proofs.all_unsteps.Given as goal

abbrev pub invariant-loop-k : goal.invariant-loop-k
invariant-loop-k g l =
    let w = g.W.Word in
    ((t : List ℕ) → RunBack w.size (w.numbers l.m) w.size.steps (l.initial.k * 2) t (w.numbers l.initial.r) → RunBack w.size (w.numbers l.m) w.size.steps (l.k * 2) t (w.numbers l.r)) × (l.k ≤ l.initial.k)

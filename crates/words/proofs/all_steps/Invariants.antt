use Prim.Native.Nat.{◌*◌, ◌≤◌}
use Rattle.loops.proofs.Turns.{Stepped}
use Rattle.words.proofs.all_steps.Given as goal

abbrev pub invariant-loop-k : goal.invariant-loop-k
invariant-loop-k g l =
    let w = g.W.Word in
    Stepped w.size (w.numbers l.m) w.size.steps (l.k * 2) (w.numbers l.initial.r) (w.numbers l.r) × (l.k * 2 ≤ w.size.steps)

use Prim.Native.Nat.{◌-◌, ◌≤◌}
use Rattle.lsh.specs.WordSize.{lsh256}
use Rattle.loops.specs.Turns.{SteppedAhead}
use Rattle.groups256.proofs.all_steps.Given as goal

abbrev pub invariant-loop-j : goal.invariant-loop-j
invariant-loop-j l = SteppedAhead lsh256 l.initial.m l.m l.j l.initial.r l.r × (l.j ≤ l.steps)

abbrev pub decreases-loop-j : goal.decreases-loop-j
decreases-loop-j l = l.steps - l.j

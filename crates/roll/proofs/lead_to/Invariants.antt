-- `roll::lead_to` visits its contract: the walk over m links. Assumes nothing.
use mathlib.Core.Path.{◌≡◌}
use Prim.Native.Nat.{◌-◌, ◌≤◌}
use Rattle.lsh.specs.WordSize.{size_of}
use Rattle.checkpoints.specs.Checkpoints.{lead_to}
use Rattle.roll.proofs.lead_to.Given as goal

abbrev pub invariant-loop-j : goal.invariant-loop-j
invariant-loop-j l = (l.j ≤ l.m) × (l.i ≡ lead_to (size_of l.w) l.roll l.j)

abbrev pub decreases-loop-j : goal.decreases-loop-j
decreases-loop-j l = l.m - l.j

-- `roll::walk_links` visits its contract. Assumes nothing.
use Prim.Native.Nat.{◌-◌}
use Rattle.lsh.specs.WordSize.{size_of}
use Rattle.roll.proofs.Walked.{Walked}
use Rattle.roll.proofs.walk_links.Given as goal

abbrev pub invariant-loop-i : goal.invariant-loop-i
invariant-loop-i l = Walked (size_of l.w) l.roll l.marks l.count l.last l.i

abbrev pub decreases-loop-i : goal.decreases-loop-i
decreases-loop-i l = l.slots - l.count

-- `append_roll::append_parts` visits its contract: the parts of the piece between its checkpoints. Assumes nothing.
use Prim.Native.Nat.{◌-◌}
use lib.ListN.{length}
use Rattle.append_roll.proofs.Parts.{Parted}
use Rattle.append_roll.proofs.append_parts.Given as goal

abbrev pub invariant-loop-at : goal.invariant-loop-at
invariant-loop-at l = Parted l.r l.piece l.initial.at l.initial.roll l.p.chain l.p.count l.p.known l.at l.roll

abbrev pub decreases-loop-at : goal.decreases-loop-at
decreases-loop-at l = length l.piece - l.at

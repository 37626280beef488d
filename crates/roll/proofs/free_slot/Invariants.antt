-- `roll::free_slot` visits its contract. Assumes nothing.
use mathlib.Core.Path.{◌≡◌}
use mathlib.Core.List.{List}
use Prim.Native.Nat.{ℕ, ◌+◌, ◌-◌}
use Rattle.checkpoints.specs.FreeSlot.{first_free, free_slot}
use Rattle.roll.specs.Traversal.{marked}
use Rattle.roll.proofs.free_slot.Given as goal

-- before the turn of slot i: the slots before it are linked
abbrev pub invariant-loop-i : goal.invariant-loop-i
invariant-loop-i l = (linked : List ℕ) → l.marks ≡ marked linked → free_slot l.k linked ≡ first_free l.i (l.k + 1 - l.i) linked

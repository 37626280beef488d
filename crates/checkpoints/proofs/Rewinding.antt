-- The roll after a call that takes bytes off an order, by the number of the answer; and that such a call is accepted with a roll of the record only.
-- Assumes nothing.
use mathlib.Core.Path.{◌≡◌, sym, ◌∙◌}
use mathlib.Core.List.{List}
use Prim.Native.Nat.{ℕ, ◌/◌}
use Rattle.lsh.specs.WordSize.{size_of, block_bytes}
use Rattle.orders.specs.declared.Outcome.{Outcome}
use Rattle.checkpoints.specs.Roll.{checkpoints}
use Rattle.checkpoints.specs.Checkpoints.{unlinked}
use Rattle.checkpoints.proofs.InTurn.{roll-changed}
use Rattle.checkpoints.proofs.Shown.{cut-is}
use Rattle.checkpoints.specs.RewindRoll.{cut_roll}

-- an accepted call: the code takes off the links after as many as the order has checkpoints
pub roll-cut : (w : ℕ) (o : Outcome) (roll : List ℕ) → o.number ≡ 0 → unlinked (size_of w) (checkpoints w o.next.total) roll ≡ cut_roll w o roll
unfolding cut_roll checkpoints
roll-cut w o roll accepted = cut-is (size_of w) roll (o.next.total / block_bytes (size_of w)) ∙ sym (roll-changed o _ roll accepted)

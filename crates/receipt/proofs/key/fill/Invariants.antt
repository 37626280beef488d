-- `receipt::key::fill` meets its contract. Assumes nothing.
use Rattle.std.proofs.Common.{length, ◌≤◌, ◌≡◌}
use Rattle.receipt.proofs.key.fill.Given as goal

abbrev pub invariant-loop : goal.invariant-loop
invariant-loop l = (l.size ≤ length l.room) × (length l.room ≡ length l.initial.room)

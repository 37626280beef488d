-- `receipt::check::each` is safe and ends: each turn counts one line at most. Assumes nothing.
use Rattle.std.proofs.Common.{length, ◌≤◌, ◌≡◌}
use Rattle.receipt.specs.Found.{counted}
use Rattle.receipt.proofs.check.each.Given as goal

abbrev pub invariant-loop : goal.invariant-loop
invariant-loop l = (counted l.found ≤ l.counter) × (length l.room ≡ length l.initial.room)

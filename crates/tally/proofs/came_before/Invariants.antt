-- `tally::came_before` meets its contract: before each turn the receipt is the same as none of those from place j on. Assumes nothing.
use mathlib.Core.Path.{◌≡◌}
use mathlib.Core.Bool.{false}
use Prim.Native.Nat.{ℕ, ◌≤◌, ◌<◌}
use Rattle.receipts.specs.Same.{same_receipt}
use Rattle.receipts.specs.Tally.{receipt_at}
use Rattle.tally.proofs.came_before.Given as goal

abbrev pub invariant-loop-j : goal.invariant-loop-j
invariant-loop-j l = (k : ℕ) → l.j ≤ k → k < l.i → same_receipt (receipt_at l.list l.i) (receipt_at l.list k) ≡ false

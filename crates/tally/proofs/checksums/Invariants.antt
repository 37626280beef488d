use mathlib.Core.Path.{◌≡◌}
use Prim.Native.Nat.{ℕ, ◌<◌}
use lib.ListN.{length}
use Rattle.lsh.specs.Tabulate.{at}
use Rattle.receipts.specs.Tally.{most_receipts, receipt_at}
use Rattle.tally.specs.Checksum.{checksum}
use Rattle.tally.proofs.checksums.Given as goal

abbrev pub invariant-loop-i : goal.invariant-loop-i
invariant-loop-i l = (length l.sums ≡ most_receipts) × ((j : ℕ) → j < l.i → at l.sums j ≡ checksum (receipt_at l.list j))

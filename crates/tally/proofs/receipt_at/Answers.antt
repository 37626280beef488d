use mathlib.Core.Path.{◌≡◌, ap}
use Prim.Native.Nat.{ℕ, ◌+◌, ◌-◌, ◌*◌}
use native.Mathlib.Omega.{arith}
use lib.ListN.{take, drop}
use Rattle.receipts.specs.Receipt.{receipt_bytes}
use Rattle.receipts.specs.Tally.{receipt_at}
use Rattle.tally.proofs.receipt_at.Goals as goal

pub returns : goal.returns
unfolding receipt_at receipt_bytes
returns c = let size : (c.args.i + 1) * receipt_bytes - c.args.i * receipt_bytes ≡ receipt_bytes = omega arith in
    ap (λ (k : ℕ). take k (drop (c.args.i * receipt_bytes) c.args.list.now)) size

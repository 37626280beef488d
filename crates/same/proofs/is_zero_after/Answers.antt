use mathlib.Core.Path.{sym}
use native.Mathlib.Omega.{arith}
use lib.Seq.{length-take-le}
use Rattle.receipts.specs.Receipt.{receipt_bytes, length_place}
use Rattle.same.proofs.is_zero_after.Goals as goal

pub slice_bounds-zero_from-end : goal.slice_bounds-zero_from-end
unfolding receipt_bytes
slice_bounds-zero_from-end c = sym (length-take-le length_place c.args.r.now (omega arith))

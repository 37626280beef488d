use mathlib.Core.Path.{sym, ap₂, ◌∙◌}
use native.Mathlib.Omega.{arith}
use lib.Seq.{take_all}
use Rattle.lists.specs.Equal.{equal}
use Rattle.receipts.specs.Receipt.{receipt_bytes}
use Rattle.receipts.proofs.Agreement.{same-is-equal}
use Rattle.same.proofs.all_agree.Goals as goal

pub slice_bounds-equal_bytes-end : goal.slice_bounds-equal_bytes-end
unfolding receipt_bytes
slice_bounds-equal_bytes-end c = omega (arith, c.requires.0.long)

pub slice_bounds-equal_bytes-end-2 : goal.slice_bounds-equal_bytes-end-2
unfolding receipt_bytes
slice_bounds-equal_bytes-end-2 c = omega (arith, c.requires.1.long)

pub returns : goal.returns
unfolding receipt_bytes
returns c =
    c.equal_bytes.ensures
    ∙ ap₂ equal (take_all 76 c.args.a.now (omega (arith, c.requires.0.long))) (take_all 76 c.args.b.now (omega (arith, c.requires.1.long)))
    ∙ sym (same-is-equal c.requires.0 c.requires.1)

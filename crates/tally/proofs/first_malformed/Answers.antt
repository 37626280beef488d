use mathlib.Core.Path.{sym, ap, ◌∙◌}
use lib.ListN.{length}
use Rattle.receipts.specs.Receipt.{receipt_bytes}
use Rattle.receipts.specs.WellFormed.{well_formed}
use Rattle.receipts.specs.Tally.{receipt_count}
use Rattle.receipts.proofs.Places.{receipt-length}
use Rattle.receipts.proofs.Malformed.{malformed-here, searched-more, searched-all}
use native.Mathlib.Omega.{arith}
use Rattle.tally.proofs.first_malformed.Goals as goal

pub is_well_formed-requires : goal.is_well_formed-requires
unfolding receipt_count receipt_bytes
is_well_formed-requires c = ap length c.receipt_at.ensures ∙ receipt-length _ _ c.loop-i-test.true

pub returns-then-not-is_well_formed : goal.returns-then-not-is_well_formed
unfolding receipt_count receipt_bytes
returns-then-not-is_well_formed c = (
  malformed-here _ _ c.loop-i.invariant c.loop-i-test.true (sym (c.is_well_formed.ensures ∙ ap well_formed c.receipt_at.ensures) ∙ c.if-not-is_well_formed.true),
  c.loop-i-test.true,
)

pub loop-i-preserved : goal.loop-i-preserved
unfolding receipt_count receipt_bytes
loop-i-preserved c = searched-more _ _ c.loop-i.invariant c.loop-i-test.true
    (sym (c.is_well_formed.ensures ∙ ap well_formed c.receipt_at.ensures) ∙ c.if-not-is_well_formed.false)

pub returns : goal.returns
unfolding receipt_count receipt_bytes
returns c = omega (arith, searched-all _ _ c.loop-i.invariant c.loop-i-test.false)

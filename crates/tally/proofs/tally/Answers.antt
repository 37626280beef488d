use Rattle.receipts.proofs.Malformed.{all-receipts}
use mathlib.Core.Path.{refl}
use Rattle.receipts.specs.Receipt.{receipt_bytes}
use Rattle.receipts.specs.Tally.{most_receipts}
use Rattle.tally.proofs.tally.Goals as goal

pub count-requires : goal.count-requires
unfolding most_receipts receipt_bytes
count-requires c = (c.if-list.false, all-receipts _ (λ i. (c.type_inv.list i).fits) refl c.in_default.ensures)

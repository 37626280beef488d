-- Receipts with different checksums are not the same.
-- Assumes nothing.
use mathlib.Core.Path.{◌≡◌, refl, ap, ◌∙◌}
use mathlib.Core.Bool.{Bool, true, false}
use mathlib.Core.List.{List}
use Prim.Native.Nat.{ℕ}
use Rattle.lists.specs.Equal.{equal}
use Rattle.lists.proofs.Equal.{equal-true}
use Rattle.receipts.specs.WellFormed.{IsReceipt}
use Rattle.receipts.specs.Same.{same_receipt}
use Rattle.receipts.proofs.Agreement.{same-is-equal}
use Rattle.tally.specs.Checksum.{checksum}

pub sums-differ : {a b : List ℕ} → IsReceipt a → IsReceipt b → (checksum a ≡ checksum b → ⊥) → same_receipt a b ≡ false
sums-differ {a} {b} ra rb differ = same-is-equal ra rb ∙ go (equal a b) refl
  where
    go : (t : Bool) → equal a b ≡ t → t ≡ false
    go true e = absurd (differ (ap checksum (equal-true a b e)))
    go false e = refl

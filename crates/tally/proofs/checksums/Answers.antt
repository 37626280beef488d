use mathlib.Core.Path.{◌≡◌, ap, ◌∙◌}
use mathlib.Core.List.{List}
use Prim.Native.Nat.{ℕ, ◌+◌, ◌<◌}
use native.Mathlib.Decide.{ℕ_discrete}
use native.Mathlib.Omega.{arith}
use borrow.Author.Rules.{rules}
use lib.ListN.{length, set, length-set}
use lib.Seq.{get_or-set_same, get_or-set_other}
use Rattle.lsh.specs.Tabulate.{at}
use Rattle.receipts.specs.Receipt.{receipt_bytes}
use Rattle.receipts.specs.Tally.{most_receipts, receipt_count, receipt_at}
use Rattle.tally.specs.Checksum.{checksum}
use Rattle.tally.proofs.checksums.Goals as goal

-- one place more is filled
filled : (sums : List ℕ) (i v : ℕ) (f : ℕ → ℕ) → i < length sums → v ≡ f i → ((j : ℕ) → j < i → at sums j ≡ f j) → (j : ℕ) → j < i + 1 → at (set sums i v) j ≡ f j
filled sums i v f room is before j lt = go (ℕ_discrete j i)
  where
    go : Dec (j ≡ i) → at (set sums i v) j ≡ f j
    go (yes here) = rw here (get_or-set_same sums i v 0 room ∙ is)
    go (no other) = get_or-set_other sums i j v 0 other ∙ before j (omega arith)

pub loop-i-init : goal.loop-i-init
unfolding most_receipts
loop-i-init c = (search rules, λ j none. absurd (omega arith))

pub loop-i-preserved : goal.loop-i-preserved
unfolding receipt_count receipt_bytes most_receipts
loop-i-preserved c = let long = c.loop-i.invariant.0 in (
  length-set c.loop-i.sums c.loop-i.i _ ∙ long,
  filled c.loop-i.sums c.loop-i.i _ (λ (j : ℕ). checksum (receipt_at c.args.list.now j)) (omega arith) (c.sum_of.ensures ∙ ap checksum c.receipt_at.ensures) c.loop-i.invariant.1,
)

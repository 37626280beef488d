use mathlib.Core.Path.{◌≡◌, sym, subst, ap₂, ◌∙◌}
use mathlib.Core.Bool.{false}
use Prim.Native.Nat.{ℕ, ◌-◌, ◌≤◌, ◌<◌}
use native.Mathlib.Decide.{ℕ_discrete}
use native.Mathlib.Omega.{arith}
use Rattle.receipts.specs.Same.{same_receipt}
use Rattle.receipts.specs.Tally.{receipt_at}
use Rattle.receipts.proofs.Places.{found, not_found}
use Rattle.tally.proofs.Sums.{sums-differ}
use Rattle.tally.proofs.came_before.Goals as goal
use Rattle.tally.proofs.came_before.Goals.{else-sums-j-via-then-sums-j+else-all_agree, else-sums-j-via-else-sums-j}

-- what holds from j on and at the place before j holds from that place on
one-more : (P : ℕ → Type 0) (i j : ℕ) → P (j - 1) → ((k : ℕ) → j ≤ k → k < i → P k) → (k : ℕ) → j - 1 ≤ k → k < i → P k
one-more P i j here rest k le lt = go (ℕ_discrete k (j - 1))
  where
    go : Dec (k ≡ j - 1) → P k
    go (yes first) = subst P (sym first) here
    go (no other) = rest k (omega arith) lt

pub returns-then-all_agree : goal.returns-then-all_agree
returns-then-all_agree c = sym (found _ _ _ (c.loop-j.j - 1) (omega arith) (sym (c.all_agree.ensures ∙ ap₂ same_receipt c.receipt_at.ensures c.receipt_at-then-sums-j.ensures) ∙ c.if-all_agree.true))

pub loop-j-preserved : goal.loop-j-preserved
loop-j-preserved c = let s = c.args.list.now in
    let i : ℕ = c.args.i in
    let j : ℕ = c.loop-j.j - 1 in
    one-more (λ (k : ℕ). same_receipt (receipt_at s i) (receipt_at s k) ≡ false) i c.loop-j.j
    (elim c.else-sums-j.branch [
      | else-sums-j-via-then-sums-j+else-all_agree w ↦ sym (w.all_agree.ensures ∙ ap₂ same_receipt w.receipt_at.ensures w.receipt_at-then-sums-j.ensures) ∙ w.if-all_agree.false
      | else-sums-j-via-else-sums-j w ↦ sums-differ (c.requires.2 i (omega arith)) (c.requires.2 j (omega arith)) (λ e. w.if-sums-j.false (c.requires.3 j (omega arith) ∙ sym e ∙ sym (c.requires.3 i (omega arith))))
    ])
    c.loop-j.invariant

pub returns : goal.returns
returns c = sym (not_found _ _ _ (λ j lt. c.loop-j.invariant j (omega arith) lt))

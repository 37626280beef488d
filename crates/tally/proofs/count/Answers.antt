use mathlib.Core.Path.{refl, sym, ap, ◌∙◌}
use native.Mathlib.Omega.{arith}
use Rattle.receipts.specs.Receipt.{receipt_bytes}
use Rattle.receipts.specs.Kinds.{is_blank}
use Rattle.receipts.specs.Tally.{receipt_count}
use Rattle.receipts.proofs.Counting.{counted_none, together, one_more, all_done}
use Rattle.tally.proofs.count.Goals as goal
use Rattle.tally.proofs.count.Goals.{then-is_blank, else-is_blank+then-came_before, else-is_blank+else-came_before}

pub loop-i-init : goal.loop-i-init
loop-i-init c = counted_none _

pub overflow_add-blanks : goal.overflow_add-blanks
unfolding receipt_count receipt_bytes
overflow_add-blanks c = record { fits = omega (arith, together c.loop-i.invariant) }

pub overflow_add-reprints : goal.overflow_add-reprints
unfolding receipt_count receipt_bytes
overflow_add-reprints c = record { fits = omega (arith, together c.loop-i.invariant) }

pub overflow_add-firsts : goal.overflow_add-firsts
unfolding receipt_count receipt_bytes
overflow_add-firsts c = record { fits = omega (arith, together c.loop-i.invariant) }

pub loop-i-preserved : goal.loop-i-preserved
loop-i-preserved c =
    let h = c.loop-i.invariant in
    let blank = sym (ap is_blank c.receipt_at.ensures) ∙ sym c.is_blank.ensures in
    elim c.if-is_blank.branch [
      | then-is_blank w ↦ one_more h (blank ∙ w.if-is_blank.true) refl w.firsts-is w.reprints-is w.blanks-is
      | else-is_blank+then-came_before w ↦ one_more h (blank ∙ w.if-is_blank.false) (sym w.came_before.ensures ∙ w.if-came_before.true) w.firsts-is w.reprints-is w.blanks-is
      | else-is_blank+else-came_before w ↦ one_more h (blank ∙ w.if-is_blank.false) (sym w.came_before.ensures ∙ w.if-came_before.false) w.firsts-is w.reprints-is w.blanks-is
    ]

pub returns : goal.returns
unfolding receipt_count receipt_bytes
returns c = all_done c.loop-i.invariant (omega arith)

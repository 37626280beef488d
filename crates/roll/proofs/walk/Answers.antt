-- `roll::walk` visits its contract. Assumes nothing.
use mathlib.Core.Path.{sym, ◌∙◌}
use mathlib.Core.Bool.{false≢true}
use Rattle.roll.proofs.Walked.{not-roll}
use Rattle.roll.proofs.walk.Goals as goal

pub returns-then-not-is_roll_length : goal.returns-then-not-is_roll_length
returns-then-not-is_roll_length c = not-roll _ _ (λ h. false≢true (sym (sym c.is_roll_length.ensures ∙ c.if-not-is_roll_length.true) ∙ h.right))

pub walk_links-requires : goal.walk_links-requires
walk_links-requires c = (sym c.is_roll_length.ensures ∙ c.if-not-is_roll_length.false, c.slot_count.ensures)

use mathlib.Core.Path.{sym, ap, ◌∙◌}
use mathlib.Core.Bool.{Bool, not}
use Rattle.roll.specs.declared.Traversal.{Traversal}
use Rattle.checkpoints.specs.Roll.{roll_answer}
use Rattle.checkpoints.specs.EndRoll.{end_roll_call, ended_roll}
use Rattle.roll.proofs.Walked.{known-roll}
use Rattle.rewind_roll.proofs.After.{refused-first, passed-first}
use Rattle.rewind_roll.proofs.end_roll.Goals as goal

pub returns-in_err-known : goal.returns-in_err-known
unfolding end_roll_call ended_roll
returns-in_err-known c = let begun = ap (λ (b : Bool). roll_answer c.args.r b c.args.roll.now) (ap not c.is_begun.ensures) in
    refused-first _ _ _ _ _ _ c.from_residual.ensures.1 (c.in_err-known.ensures.0 ∙ begun)

pub cut-requires : goal.cut-requires
cut-requires c = let k = known-roll _ _ c.in_ok-known.ensures.1.2 in
    (k.is, ap (λ (y : Traversal). y.count) k.traversal)

pub returns : goal.returns
unfolding end_roll_call ended_roll
returns c = let begun = ap (λ (b : Bool). roll_answer c.args.r b c.args.roll.now) (ap not c.is_begun.ensures) in
    passed-first _ _ _ _ (sym begun ∙ sym c.in_ok-known.ensures.0) _ c.in_turn-ended.ensures (c.cut.ensures c.args.r)

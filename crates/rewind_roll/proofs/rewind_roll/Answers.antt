use mathlib.Core.Path.{sym, ap, ◌∙◌}
use mathlib.Core.Bool.{Bool}
use Rattle.roll.specs.declared.Traversal.{Traversal}
use Rattle.checkpoints.specs.Roll.{roll_answer}
use Rattle.checkpoints.specs.RewindRoll.{rewind_roll_call, rewound_roll}
use Rattle.roll.proofs.Walked.{known-roll}
use Rattle.rewind_roll.proofs.After.{refused-first, passed-first}
use Rattle.rewind_roll.proofs.rewind_roll.Goals as goal

pub returns-in_err-known : goal.returns-in_err-known
unfolding rewind_roll_call rewound_roll
returns-in_err-known c = let begun = ap (λ (b : Bool). roll_answer c.args.r b c.args.roll.now) c.is_begun.ensures in
    refused-first _ _ _ _ _ _ c.from_residual.ensures.1 (c.in_err-known.ensures.0 ∙ begun)

pub cut-requires : goal.cut-requires
cut-requires c = let k = known-roll _ _ c.in_ok-known.ensures.1.2 in
    (k.is, ap (λ (y : Traversal). y.count) k.traversal)

pub returns : goal.returns
unfolding rewind_roll_call rewound_roll
returns c = let begun = ap (λ (b : Bool). roll_answer c.args.r b c.args.roll.now) c.is_begun.ensures in
    passed-first _ _ _ _ (sym begun ∙ sym c.in_ok-known.ensures.0) _ c.in_turn-rewound.ensures (c.cut.ensures c.args.r)

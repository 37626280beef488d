-- `append_roll::append_roll` meets its contract, by the answer. Assumes nothing.
use mathlib.Core.Path.{refl, sym, ap, ◌∙◌}
use Rattle.std.specs.Prelude.{Err}
use Rattle.std.proofs.lemmas.Result.{err_from_is_err_and}
use Rattle.answers.proofs.Numbers.{some_number}
use Rattle.orders.specs.Step.{outcome}
use Rattle.checkpoints.proofs.Members.{free-choice}
use Rattle.checkpoints.proofs.AppendAnswers.{refused-call, accepted-call}
use Rattle.append_roll.proofs.append_roll.Goals as goal

pub returns-in_err-known : goal.returns-in_err-known
returns-in_err-known c = let e = c.in_err-known.field-0.0 in
    let p = err_from_is_err_and c.from_residual.result c.from_residual.ensures.1 in
    let r = refused-call _ _ _ c.in_err-known.ensures.0 (some_number e) in
    (ap (outcome c.args.r) (p.1 ∙ ap Err p.2) ∙ r.0, r.1, free-choice)

pub append_parts-requires : goal.append_parts-requires
append_parts-requires c = (sym c.in_ok-known.ensures.0, c.in_ok-known.ensures.1)

pub returns : goal.returns
returns c = (
  c.append_parts.ensures.0 ∙ (accepted-call _ _ _ c.in_ok-known.ensures.0 refl).0,
  c.append_parts.ensures.1,
  free-choice,
)

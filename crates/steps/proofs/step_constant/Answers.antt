use mathlib.Core.Path.{ap, ◌∙◌}
use native.Mathlib.Omega.{arith}
use Rattle.loops.proofs.Constants.{at_constant}
use Rattle.word.proofs.Sizes.{sized}
use Rattle.steps.proofs.Amounts.{constant_inside}
use Rattle.steps.proofs.step_constant.Goals as goal

pub overflow_mul-result : goal.overflow_mul-result
overflow_mul-result g c = search (arith, (sized g.met.W.Word.is_size).most, c.requires.1)

pub overflow_add-result : goal.overflow_add-result
overflow_add-result g c = search (arith, (sized g.met.W.Word.is_size).most, c.requires.1, c.requires.2)

pub offset_bounds-sc-j : goal.offset_bounds-sc-j
offset_bounds-sc-j g c = omega (arith, constant_inside g.met.W.Word.takes_each g.W.Word.size c.args.sc.now c.requires.0 c.requires.1 c.requires.2)

pub bounds-sc-j : goal.bounds-sc-j
bounds-sc-j g c = constant_inside g.met.W.Word.takes_each g.W.Word.size c.args.sc.now c.requires.0 c.requires.1 c.requires.2

pub returns : goal.returns
returns g c =
    let h = g.met.W.Word.takes_each in
    ap g.W.Word.number c.index-sc-j.is ∙ h.word c.args.sc.now _ _ (constant_inside h g.W.Word.size c.args.sc.now c.requires.0 c.requires.1 c.requires.2)
    ∙ at_constant g.W.Word.size _ c.requires.0 c.args.j c.args.l c.requires.1 c.requires.2

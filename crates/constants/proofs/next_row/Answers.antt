use mathlib.Core.Path.{ap, ◌∙◌}
use native.Mathlib.Omega.{arith}
use Rattle.loops.specs.Constants.{next_constant, next_row}
use Rattle.loops.proofs.Places.{placed-none, filled-all}
use Rattle.word.proofs.Stores.{filled_word, length_numbers}
use Rattle.constants.proofs.next_row.Goals as goal

pub loop-l-init : goal.loop-l-init
loop-l-init g c = placed-none 8 _ _ _

pub loop-l-preserved : goal.loop-l-preserved
loop-l-preserved g c =
    let w = g.W.Word in
    let h = g.met.W.Word.takes_each in
    filled_word h _ c.loop-l.invariant c.loop-l-test.true (omega (arith, c.loop-l.invariant.len, h.len c.loop-l.r)) (c.next_constant.ensures ∙ ap (next_constant w.size) (h.word c.args.p c.loop-l.l _ (omega arith)))

pub returns : goal.returns
unfolding next_row
returns g c = filled-all c.loop-l.invariant c.loop-l-test.false (length_numbers g.met.W.Word.takes_each _ (omega arith))

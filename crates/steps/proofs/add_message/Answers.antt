use mathlib.Core.Path.{ap₂, ◌∙◌}
use native.Mathlib.Omega.{arith}
use Rattle.lsh.specs.Word.{xor}
use Rattle.lsh.specs.Step.{add_message}
use Rattle.loops.proofs.Places.{placed-none, filled-all}
use Rattle.word.proofs.Stores.{filled_word, length_numbers}
use Rattle.steps.proofs.add_message.Goals as goal

pub loop-l-init : goal.loop-l-init
loop-l-init g c = placed-none 16 _ _ _

pub loop-l-preserved : goal.loop-l-preserved
loop-l-preserved g c =
    let h = g.met.W.Word.takes_each in
    filled_word h _ c.loop-l.invariant c.loop-l-test.true (omega (arith, c.loop-l.invariant.len, h.len c.loop-l.r))
    (c.exclusive_or.ensures ∙ ap₂ (xor g.W.Word.size.bits) (h.word c.args.t c.loop-l.l _ (omega arith)) (h.word c.args.m c.loop-l.l _ (omega arith)))

pub returns : goal.returns
unfolding add_message
returns g c = filled-all c.loop-l.invariant c.loop-l-test.false (length_numbers g.met.W.Word.takes_each _ (omega arith))

use mathlib.Core.Path.{ap₂, ◌∙◌}
use native.Mathlib.Omega.{arith}
use Rattle.lsh.specs.Word.{add}
use Rattle.lsh.specs.WordSize.{tau}
use Rattle.lsh.specs.Expansion.{next_sub_message}
use Rattle.lsh.proofs.Permutation.{tau-permutes}
use Rattle.loops.proofs.Places.{placed-none, filled-all}
use Rattle.word.proofs.Stores.{filled_word, length_numbers}
use Rattle.words.proofs.next_sub_message.Goals as goal

pub loop-l-init : goal.loop-l-init
unfolding tau next_sub_message
loop-l-init g c = placed-none 16 _ _ _

pub bounds-q-tau : goal.bounds-q-tau
unfolding tau next_sub_message
bounds-q-tau g c = omega (arith, tau-permutes.inside c.loop-l.l)

pub loop-l-preserved : goal.loop-l-preserved
unfolding tau next_sub_message
loop-l-preserved g c =
    let h = g.met.W.Word.takes_each in
    filled_word h _ c.loop-l.invariant c.loop-l-test.true (omega (arith, c.loop-l.invariant.len, h.len c.loop-l.r))
    (c.add.ensures ∙ ap₂ (add g.W.Word.size.bits) (h.word c.args.p c.loop-l.l _ (omega arith)) (h.word c.args.q _ _ (omega (arith, tau-permutes.inside c.loop-l.l))))

pub returns : goal.returns
unfolding tau next_sub_message
returns g c = filled-all c.loop-l.invariant c.loop-l-test.false (length_numbers g.met.W.Word.takes_each _ (omega arith))

use native.Mathlib.Omega.{arith}
use Rattle.loops.proofs.Places.{placed-none, copied_all}
use Rattle.word.proofs.Stores.{placed_word, length_numbers}
use Rattle.word.proofs.put.Goals as goal

pub loop-l-init : goal.loop-l-init
loop-l-init g c = (placed-none _ _ _ _, omega (arith, g.met.W.Word.takes_each.len c.args.m.now, c.requires))

pub loop-l-preserved : goal.loop-l-preserved
loop-l-preserved g c =
    let h = g.met.W.Word.takes_each in
    (placed_word h _ c.loop-l.invariant.0 c.loop-l-test.true (omega (arith, c.loop-l.invariant.1)) (λ k less same. omega arith) (h.word c.args.r c.loop-l.l _ (omega arith)), c.loop-l.invariant.1)

pub returns : goal.returns
returns g c = copied_all _ (g.W.Word.numbers c.args.r) c.loop-l.invariant.0 c.loop-l-test.false c.loop-l.invariant.1 (length_numbers g.met.W.Word.takes_each _ (omega arith))

use native.Mathlib.Omega.{arith}
use Rattle.lsh.specs.WordSize.{sigma}
use Rattle.lsh.specs.Step.{permute}
use Rattle.lsh.proofs.Permutation.{sigma-permutes}
use Rattle.loops.proofs.Places.{placed-none, filled-all}
use Rattle.word.proofs.Stores.{filled_word, length_numbers}
use Rattle.steps.proofs.permute.Goals as goal

pub loop-l-init : goal.loop-l-init
unfolding sigma permute
loop-l-init g c = placed-none 16 _ _ _

pub bounds-t-sigma : goal.bounds-t-sigma
unfolding sigma permute
bounds-t-sigma g c = omega (arith, sigma-permutes.inside c.loop-l.l)

pub loop-l-preserved : goal.loop-l-preserved
unfolding sigma permute
loop-l-preserved g c =
    let h = g.met.W.Word.takes_each in
    filled_word h _ c.loop-l.invariant c.loop-l-test.true (omega (arith, c.loop-l.invariant.len, h.len c.loop-l.r)) (h.word c.args.t _ _ (omega (arith, sigma-permutes.inside c.loop-l.l)))

pub returns : goal.returns
unfolding sigma permute
returns g c = filled-all c.loop-l.invariant c.loop-l-test.false (length_numbers g.met.W.Word.takes_each _ (omega arith))

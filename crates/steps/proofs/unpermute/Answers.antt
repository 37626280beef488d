use native.Mathlib.Omega.{arith}
use Rattle.lsh.specs.WordSize.{sigma}
use Rattle.lsh.specs.Step.{unpermute}
use Rattle.lsh.proofs.Permutation.{sigma-permutes}
use Rattle.loops.proofs.Places.{placed-none, scattered-all}
use Rattle.word.proofs.Stores.{scattered_word, length_numbers}
use Rattle.steps.proofs.unpermute.Goals as goal

pub loop-l-init : goal.loop-l-init
unfolding sigma unpermute
loop-l-init g c = placed-none 16 _ _ _

pub bounds-r-sigma : goal.bounds-r-sigma
unfolding sigma unpermute
bounds-r-sigma g c = omega (arith, sigma-permutes.inside c.loop-l.l)

pub loop-l-preserved : goal.loop-l-preserved
unfolding sigma unpermute
loop-l-preserved g c =
    let h = g.met.W.Word.takes_each in
    scattered_word h _ sigma-permutes c.loop-l.invariant c.loop-l-test.true (length_numbers h _ (omega arith)) (h.word c.args.t c.loop-l.l _ (omega arith))

pub returns : goal.returns
unfolding sigma unpermute
returns g c = scattered-all sigma-permutes c.loop-l.invariant c.loop-l-test.false (length_numbers g.met.W.Word.takes_each _ (omega arith))

use native.Mathlib.Omega.{arith}
use Rattle.lsh.specs.WordSize.{lsh512}
use Rattle.loops.proofs.Places.{placed-none, filled_more, front-stored}
use Rattle.finalization.proofs.final_words.Goals as goal

pub loop-l-init : goal.loop-l-init
loop-l-init c = placed-none _ _ _ _

pub loop-l-preserved : goal.loop-l-preserved
unfolding lsh512
loop-l-preserved c = filled_more _ c.loop-l.invariant c.loop-l-test.true (omega arith) c.exclusive_or.ensures

pub returns : goal.returns
returns c = front-stored c.loop-l.invariant c.loop-l-test.false (omega arith)

use mathlib.Core.Path.{refl}
use native.Mathlib.Omega.{arith}
use Rattle.loops.proofs.Places.{placed-none, placed-more, copied_all}
use Rattle.buffers.proofs.put.Goals as goal

pub loop-i-init : goal.loop-i-init
loop-i-init c = placed-none _ _ _ _

pub loop-i-preserved : goal.loop-i-preserved
loop-i-preserved c = placed-more _ c.loop-i.invariant (omega arith) (omega arith) (λ k less same. omega arith) refl

pub returns : goal.returns
returns c = (refl, copied_all c.args.from c.args.part.now c.loop-i.invariant (omega arith) (omega arith) refl)

use mathlib.Core.Path.{refl, ◌∙◌}
use native.Mathlib.Omega.{arith}
use Rattle.lsh.proofs.Tabulate.{tabulate-ext}
use Rattle.loops.proofs.Places.{placed-none, filled_more, filled-all}
use Rattle.runs.proofs.widen.Goals as goal

pub loop-l-init : goal.loop-l-init
loop-l-init c = placed-none 16 _ _ _

pub loop-l-preserved : goal.loop-l-preserved
loop-l-preserved c = filled_more _ c.loop-l.invariant c.loop-l-test.true (omega arith) refl

pub returns : goal.returns
returns c = filled-all c.loop-l.invariant c.loop-l-test.false refl ∙ tabulate-ext 16 _ c.args.t c.well_formed.0.1.0.1 (λ k h. refl)

use mathlib.Core.Path.{refl, ap, ◌∙◌}
use native.Mathlib.Omega.{arith}
use lib.ListN.{length}
use lib.Seq.{length-sets}
use Rattle.lsh.specs.WordSize.{lsh256}
use Rattle.loops.proofs.Halves.{from_more, from-up_to}
use Rattle.ahead256.proofs.expand.Goals as goal

pub loop-j-init : goal.loop-j-init
unfolding lsh256
loop-j-init c = (λ b e. e, refl)

pub expand_row-requires : goal.expand_row-requires
unfolding lsh256
expand_row-requires c = omega (arith, c.loop-j.invariant.1)

pub loop-j-preserved : goal.loop-j-preserved
unfolding lsh256
loop-j-preserved c = (
  λ b e. from_more _ (c.loop-j.invariant.0 b e) (omega (arith, c.loop-j.invariant.1)) c.expand_row.ensures,
  ap length c.expand_row.ensures ∙ (simp length-sets) ∙ c.loop-j.invariant.1,
)

pub shape_of-m : goal.shape_of-m
unfolding lsh256
shape_of-m c = c.loop-j.invariant.1

pub returns : goal.returns
unfolding lsh256
returns c b e = from-up_to (c.loop-j.invariant.0 b e) (omega arith)

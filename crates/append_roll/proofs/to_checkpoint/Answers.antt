-- `append_roll::to_checkpoint` visits its contract. Assumes nothing.
use Prim.Native.Nat.{◌<◌}
use native.Mathlib.Nat.{mod-lt}
use native.Mathlib.Omega.{arith}
use Rattle.lsh.proofs.Figures.{block-some}
use Rattle.checkpoints.proofs.Spacing.{to-next}
use Rattle.append_roll.proofs.to_checkpoint.Goals as goal
use Rattle.append_roll.proofs.to_checkpoint.Goals.{After-between_checkpoints-step}

some : (c : After-between_checkpoints-step) → 0 < c.between_checkpoints-step.result
some c = omega (arith, c.between_checkpoints-step.ensures, block-some c.args.w)

pub nonzero_rem-result : goal.nonzero_rem-result
nonzero_rem-result c = some c

pub overflow_sub-result : goal.overflow_sub-result
overflow_sub-result c = omega (arith, mod-lt c.args.total (some c))

pub returns : goal.returns
returns c = to-next c.args.w c.args.total _ (rw c.between_checkpoints-step.ensures)

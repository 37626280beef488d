-- `append_roll::between_checkpoints` visits its contract. Assumes nothing.
use native.Mathlib.Omega.{arith}
use Rattle.limits.proofs.Limits.{block-most}
use Rattle.append_roll.proofs.between_checkpoints.Goals as goal

pub overflow_mul-result : goal.overflow_mul-result
overflow_mul-result c = record { fits = omega (arith, c.block_bytes.ensures, block-most c.args.w) }

use native.Mathlib.Omega.{arith}
use Rattle.lsh.specs.WordSize.{block_bytes}
use Rattle.limits.proofs.Limits.{block-most}
use Rattle.runs.proofs.longest_digest.Goals as goal

pub overflow_mul-result : goal.overflow_mul-result
unfolding block_bytes
overflow_mul-result c = record { fits = omega (arith, c.block_bytes.ensures, block-most c.args.w) }

pub returns : goal.returns
unfolding block_bytes
returns c = omega (arith, c.block_bytes.ensures)

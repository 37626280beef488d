use Prim.Native.Nat.{◌≤◌}
use native.Mathlib.Omega.{arith}
use Rattle.limits.specs.Limits.{limit}
use Rattle.orders.proofs.Sound.{sounds}
use Rattle.orders.specs.End.{handed}
use Rattle.orders.proofs.HandBacks.{handed-most}
use Rattle.split_rewind.proofs.handed.Goals as goal
use Rattle.split_rewind.proofs.handed.Goals.{Start}

few : (z : Start) → handed z.args.r ≤ limit
few z = omega (arith, handed-most z.args.r z.requires.0 z.requires.1, (sounds z.args.r z.requires.0).few)

pub overflow_mul-result : goal.overflow_mul-result
unfolding handed limit
overflow_mul-result c = record { fits = rw c.block_bytes.ensures (omega (arith, few (goal.at.overflow_mul-result c).Start)) }

pub overflow_add-result : goal.overflow_add-result
unfolding handed limit
overflow_add-result c = record { fits = rw (c.block_bytes.ensures, c.held_length.ensures) (omega (arith, few (goal.at.overflow_add-result c).Start)) }

-- `roll::is_roll_length` meets its contract: the slots are few, and so are their bytes. Assumes nothing.
use Prim.Native.Nat.{◌*◌, ◌≤◌}
use native.Mathlib.Omega.{arith}
use Rattle.checkpoints.specs.Slots.{most_slots}
use Rattle.roll.proofs.Sizes.{slots-most}
use Rattle.roll.proofs.is_roll_length.Goals as goal
use Rattle.roll.proofs.is_roll_length.Goals.{After-slot_bytes}

few : (c : After-slot_bytes) → c.slot_count-k.result * c.slot_bytes.result ≤ most_slots * 256
few c = rw c.slot_bytes.ensures (slots-most c.args.w c.slot_count-k.result (grind arith))

pub overflow_mul-result : goal.overflow_mul-result
overflow_mul-result c = record { fits = omega (arith, few c) }

pub overflow_add-result : goal.overflow_add-result
overflow_add-result c = record { fits = omega (arith, few c) }

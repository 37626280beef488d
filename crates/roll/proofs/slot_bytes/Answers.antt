-- `roll::slot_bytes` visits its contract. Assumes nothing.
use mathlib.Core.Path.{ap}
use Prim.Native.Nat.{ℕ, ◌+◌}
use native.Mathlib.Omega.{arith}
use Rattle.checkpoints.specs.Slots.{index_bytes, slot_bytes}
use Rattle.roll.proofs.Sizes.{slot-most}
use Rattle.roll.proofs.slot_bytes.Goals as goal

pub overflow_add-result : goal.overflow_add-result
unfolding slot_bytes
overflow_add-result c = record { fits = omega (arith, c.chain_bytes.ensures, slot-most c.args.w) }

pub returns : goal.returns
unfolding slot_bytes
returns c = ap (λ (n : ℕ). index_bytes + n) c.chain_bytes.ensures

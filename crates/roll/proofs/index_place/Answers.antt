-- `roll::index_place` visits its contract. Assumes nothing.
use mathlib.Core.Path.{◌≡◌}
use Prim.Native.Nat.{ℕ, zero, suc, ◌+◌, ◌-◌, ◌*◌, ◌≤◌}
use native.Mathlib.Omega.{arith}
use Rattle.lsh.specs.WordSize.{WordSize, size_of}
use Rattle.checkpoints.specs.Slots.{index_bytes, most_slots, slot_bytes, roll_bytes, index_place}
use Rattle.roll.proofs.Sizes.{slots-most}
use Rattle.roll.proofs.index_place.Goals as goal
use Rattle.roll.proofs.index_place.Goals.{After-slot_bytes}

few : (c : After-slot_bytes) → (c.args.i - 1) * c.slot_bytes.result ≤ most_slots * 256
few c = rw c.slot_bytes.ensures (slots-most c.args.w (c.args.i - 1) (omega arith))

slot-place : (z : WordSize) (i : ℕ) → (i ≡ 0 → ⊥) → index_bytes + (i - 1) * slot_bytes z ≡ index_place z i
unfolding index_place roll_bytes
slot-place z zero some = absurd (some (omega arith))
slot-place z (suc i) some = let e : suc i - 1 ≡ i = omega arith in rw e

pub returns-then-i-eq0 : goal.returns-then-i-eq0
unfolding index_place
returns-then-i-eq0 c = rw c.if-i-eq0.true

pub overflow_mul-result : goal.overflow_mul-result
unfolding index_place
overflow_mul-result c = record { fits = omega (arith, few c) }

pub overflow_add-result : goal.overflow_add-result
unfolding index_place
overflow_add-result c = record { fits = omega (arith, few c) }

pub returns : goal.returns
unfolding index_place
returns c = rw c.slot_bytes.ensures (slot-place (size_of c.args.w) c.args.i c.if-i-eq0.false)

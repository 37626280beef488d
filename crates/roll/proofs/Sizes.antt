-- The bytes of a slot are few, and so are those of a roll.
-- Assumes nothing.
use Prim.Native.Nat.{ℕ, ◌*◌, ◌≤◌, ◌<◌}
use native.Mathlib.Nat.{mul-le-mul}
use native.Mathlib.Omega.{arith}
use Rattle.lsh.specs.WordSize.{WordSize, lsh256, lsh512, size_of, chain_bytes}
use Rattle.lsh.proofs.Figures.{of-both}
use Rattle.checkpoints.specs.Slots.{most_slots, slot_bytes}

pub slot-most : (w : ℕ) → slot_bytes (size_of w) ≤ 256
unfolding slot_bytes chain_bytes lsh256 lsh512
slot-most = of-both (λ (z : WordSize). slot_bytes z ≤ 256) (omega arith) (omega arith)

pub slot-some : (z : WordSize) → 0 < slot_bytes z
unfolding slot_bytes
slot-some z = omega arith

-- of so many slots as a roll has at most
pub slots-most : (w k : ℕ) → k ≤ most_slots → k * slot_bytes (size_of w) ≤ most_slots * 256
slots-most w k few = mul-le-mul few (slot-most w)

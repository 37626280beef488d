-- The bytes of a roll: the index of the head, and then the slots, each the index of the next slot and a chain. Slots are counted from 1.
-- Assumes nothing.
use Rattle.std.specs.Prelude.{Bool, ◌&&◌, List, ℕ, zero, suc, ◌+◌, ◌-◌, ◌*◌, ◌/◌, eqb, leb, take, drop}
use Rattle.lsh.specs.WordSize.{WordSize, chain_bytes}

-- the bytes of an index, the low one first
abbrev pub index_bytes : ℕ
index_bytes = 2

-- the most slots of a roll
abbrev pub most_slots : ℕ
most_slots = 255

-- the bytes of a slot, and of a roll of k slots
unfoldable pub slot_bytes : WordSize → ℕ
slot_bytes z = index_bytes + chain_bytes z

unfoldable pub roll_bytes : WordSize → ℕ → ℕ
roll_bytes z k = index_bytes + k * slot_bytes z

-- the slots of a buffer of so many bytes
unfoldable pub slot_count : WordSize → ℕ → ℕ
slot_count z size = (size - index_bytes) / slot_bytes z

-- the bytes are those of an index and of 1 to 255 whole slots
unfoldable pub is_roll_length : WordSize → ℕ → Bool
is_roll_length z size =
    leb 1 (slot_count z size) && leb (slot_count z size) most_slots && eqb size (roll_bytes z (slot_count z size))

-- where the index stands that leads on from slot i, at the slot's front; 0 is the head
unfoldable pub index_place : WordSize → ℕ → ℕ
index_place z zero = 0
index_place z (suc i) = roll_bytes z i

-- where the chain of slot i stands
unfoldable pub chain_place : WordSize → ℕ → ℕ
chain_place z i = index_place z i + index_bytes

-- the bytes of slot i
unfoldable pub slot_at : WordSize → List ℕ → ℕ → List ℕ
slot_at z s i = take (slot_bytes z) (drop (index_place z i) s)

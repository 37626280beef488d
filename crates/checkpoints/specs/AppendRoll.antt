-- Append with a roll: the answer's number, the count of blocks and the record that follows, and the bytes of the roll after the call.
-- Assumes nothing.
use Rattle.std.specs.Prelude.{Bool, cond, List, ◌++◌, ℕ, ◌+◌, ◌-◌, ◌/◌, ltb, length}
use Rattle.lsh.specs.WordSize.{size_of, block_bytes}
use Rattle.lsh.specs.Chains.{chain_after}
use Rattle.answers.specs.First.{first}
use Rattle.limits.specs.Limits.{limit}
use Rattle.orders.specs.declared.Record.{Record}
use Rattle.orders.specs.declared.Outcome.{Outcome}
use Rattle.orders.specs.Record.{held_bytes, is_begun}
use Rattle.orders.specs.Turn.{answered}
use Rattle.orders.specs.Append.{append_accepted}
use Rattle.checkpoints.specs.Due.{checkpoints_at, due_numbers}
use Rattle.checkpoints.specs.Slots.{slot_count}
use Rattle.checkpoints.specs.Roll.{links, roll_answer}
use Rattle.checkpoints.specs.Checkpoints.{inserted_all, if_accepted}

-- the numbers of the checkpoints that are due with size bytes more
unfoldable pub due : Record → ℕ → List ℕ
due r size = due_numbers (r.total / block_bytes (size_of r.w)) ((r.total + size) / block_bytes (size_of r.w))

-- the links and the checkpoints due are more than the slots
unfoldable pub is_full : Record → ℕ → List ℕ → Bool
is_full r size roll = ltb (slot_count (size_of r.w) (length roll)) (length (links (size_of r.w) roll) + length (due r size))

-- by the record, the length of the piece and the roll: out of turn while a split rewind is begun; 15 if the roll is none of the record, 5 if the order
-- would pass the limit, 16 if the roll has too few slots, else 0
unfoldable pub append_roll_answer : Record → ℕ → List ℕ → ℕ
append_roll_answer r size roll =
    first (roll_answer r (is_begun r) roll)
    (cond (ltb limit (r.total + size)) 5
    (cond (is_full r size roll) 16
    0))

-- an accepted call answers as Append without a roll does
unfoldable pub append_roll_call : Record → List ℕ → List ℕ → Outcome
append_roll_call r piece roll = answered (append_roll_answer r (length piece) roll) r (append_accepted r piece)

-- the chain after k blocks of the order with the piece, where k is at least the record's whole blocks
unfoldable pub chain_at : Record → List ℕ → ℕ → List ℕ
chain_at r piece k = chain_after (size_of r.w) r.chain (held_bytes r ++ piece) (k - r.total / block_bytes (size_of r.w))

-- the roll after the call: each checkpoint that is due is inserted, in order
unfoldable pub appended_roll : Record → List ℕ → List ℕ → List ℕ
appended_roll r piece roll =
    if_accepted (append_roll_call r piece roll) (inserted_all (size_of r.w) (checkpoints_at (chain_at r piece) (due r (length piece))) roll) roll

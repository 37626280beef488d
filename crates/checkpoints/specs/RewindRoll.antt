-- Rewind with a roll: the answer's number, the count of blocks and the record that follows, and the bytes of the roll after the call.
-- Assumes nothing.
use Rattle.std.specs.Prelude.{List, ℕ, ◌/◌}
use Rattle.lsh.specs.WordSize.{size_of, block_bytes}
use Rattle.orders.specs.declared.Record.{Record}
use Rattle.orders.specs.declared.Outcome.{Outcome}
use Rattle.orders.specs.Record.{is_begun}
use Rattle.orders.specs.Turn.{answered}
use Rattle.orders.specs.Rewind.{rewind_in_turn}
use Rattle.checkpoints.specs.Roll.{roll_answer}
use Rattle.checkpoints.specs.Checkpoints.{cut_to, if_accepted}

-- out of turn while a split rewind is begun; 15 if the roll is none of the record, and then as Rewind without a roll
unfoldable pub rewind_roll_call : Record → ℕ → List ℕ → List ℕ → Outcome
rewind_roll_call r keep h roll = answered (roll_answer r (is_begun r) roll) r (rewind_in_turn r keep h)

-- the roll after a call that takes bytes off the order of a record, by its answer: if it is accepted, the checkpoints past the new end are taken off,
-- and one at it stays
unfoldable pub cut_roll : ℕ → Outcome → List ℕ → List ℕ
cut_roll w o roll = if_accepted o (cut_to (size_of w) (o.next.total / block_bytes (size_of w)) roll) roll

unfoldable pub rewound_roll : Record → ℕ → List ℕ → List ℕ → List ℕ
rewound_roll r keep h roll = cut_roll r.w (rewind_roll_call r keep h roll) roll

-- End of a split rewind with a roll: the answer's number, the count of blocks and the record that follows, and the bytes of the roll after the call.
-- Assumes nothing.
use Rattle.std.specs.Prelude.{not, List, ℕ}
use Rattle.orders.specs.declared.Record.{Record}
use Rattle.orders.specs.declared.Outcome.{Outcome}
use Rattle.orders.specs.Record.{is_begun}
use Rattle.orders.specs.Turn.{answered}
use Rattle.orders.specs.End.{end_in_turn}
use Rattle.checkpoints.specs.Roll.{roll_answer}
use Rattle.checkpoints.specs.RewindRoll.{cut_roll}

-- out of turn while none is begun; 15 if the roll is none of the record, and then as End without a roll
unfoldable pub end_roll_call : Record → ℕ → List ℕ → Outcome
end_roll_call r keep roll = answered (roll_answer r (not (is_begun r)) roll) r (end_in_turn r keep)

-- the roll after the call
unfoldable pub ended_roll : Record → ℕ → List ℕ → List ℕ
ended_roll r keep roll = cut_roll r.w (end_roll_call r keep roll) roll

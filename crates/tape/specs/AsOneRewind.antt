-- A split rewind from its begin to its end, as one Rewind over the bytes handed back, joined as in the order: without a roll and with it.
-- Assumes nothing.
use Rattle.std.specs.Prelude.{◌≡◌, List, ℕ}
use Rattle.orders.specs.declared.Record.{Record}
use Rattle.orders.specs.Rewind.{rewind_call}
use Rattle.orders.specs.End.{end_call}
use Rattle.orders.specs.OneRewind.{after_steps, answered_on, joined}
use Rattle.checkpoints.specs.RewindRoll.{rewind_roll_call, rewound_roll}
use Rattle.checkpoints.specs.EndRoll.{end_roll_call, ended_roll}

-- the record, the count or the refusal, and the roll; a refused end returns the record after the steps
pub record AsOneRewind (r : Record) (h : List ℕ) (bs : List (List ℕ)) (keep : ℕ) : Type 0 where
  pub alone : end_call (after_steps r h bs) keep ≡ answered_on (after_steps r h bs) (rewind_call r keep (joined h bs))
  pub with_roll : (roll : List ℕ) → end_roll_call (after_steps r h bs) keep roll ≡ answered_on (after_steps r h bs) (rewind_roll_call r keep (joined h bs) roll)
  pub roll_after : (roll : List ℕ) → ended_roll (after_steps r h bs) keep roll ≡ rewound_roll r keep (joined h bs) roll

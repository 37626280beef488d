-- What the roll of an order shows of the tape: its chains at the blocks 64, 128, ..
-- Assumes nothing.
use Rattle.std.specs.Prelude.{◌≡◌, true, List, [], ℕ, length}
use Rattle.lsh.specs.WordSize.{size_of}
use Rattle.lsh.specs.Opening.{opening}
use Rattle.lsh.specs.Chains.{chain_after}
use Rattle.orders.specs.Record.{record_of}
use Rattle.checkpoints.specs.Due.{Checkpoint, checkpoints_at, due_numbers}
use Rattle.checkpoints.specs.Slots.{roll_bytes}
use Rattle.checkpoints.specs.Roll.{new_roll, shown, is_roll_of}
use Rattle.tape.specs.Tape.{Lent, NoRoll, WithRoll, whole_blocks}

-- the tape's checkpoints: those at the numbers due up to its whole blocks, each with the opening chain run over so many of its blocks
unfoldable pub tape_checkpoints : ℕ → ℕ → List ℕ → List Checkpoint
tape_checkpoints w n s = checkpoints_at (chain_after (size_of w) (opening (size_of w) n) s) (due_numbers 0 (whole_blocks w s))

-- a roll of k slots that is well formed for the tape's record, and shows all of them
pub record TapeRoll (w n k : ℕ) (s roll : List ℕ) : Type 0 where
  pub size : length roll ≡ roll_bytes (size_of w) k
  pub is_of : is_roll_of (record_of w n s) roll ≡ true
  pub shows : shown (size_of w) roll ≡ tape_checkpoints w n s

-- the bytes of an order's roll, by what it is lent: none, or a roll that shows the tape's checkpoints
abbrev pub RollShows : Lent → ℕ → ℕ → List ℕ → List ℕ → Type 0
RollShows NoRoll w n s roll = roll ≡ []
RollShows (WithRoll size) w n s roll = TapeRoll w n size.slots s roll

-- and before the first call: none, or a new roll
abbrev pub lent_roll : ℕ → Lent → List ℕ
lent_roll w NoRoll = []
lent_roll w (WithRoll size) = new_roll (size_of w) size.slots

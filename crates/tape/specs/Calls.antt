-- The calls that change an order, on what is kept of it and on the tape, and the premise of demand 3.
-- Assumes nothing.
use Rattle.std.specs.Prelude.{◌≡◌, List, ℕ, ◌+◌, ◌-◌, length, drop}
use Rattle.lsh.specs.WordSize.{size_of}
use Rattle.lsh.specs.Padding.{rest_of}
use Rattle.lsh.specs.ByteString.{ByteString}
use Rattle.orders.specs.declared.Record.{Record}
use Rattle.orders.specs.declared.Outcome.{Outcome}
use Rattle.orders.specs.Append.{append_call}
use Rattle.orders.specs.Rewind.{rewind_call}
use Rattle.orders.specs.Begin.{begin_call}
use Rattle.orders.specs.HandBack.{hand_back_call}
use Rattle.orders.specs.End.{end_call}
use Rattle.orders.specs.Abandon.{abandon_call}
use Rattle.checkpoints.specs.AppendRoll.{append_roll_call, appended_roll}
use Rattle.checkpoints.specs.RewindRoll.{rewind_roll_call, rewound_roll}
use Rattle.checkpoints.specs.EndRoll.{end_roll_call, ended_roll}
use Rattle.tape.specs.Sequence.{Answer, Given}
use Rattle.tape.specs.Tape.{Lent, by_lent, Tape, whole_blocks, tape_append, tape_rewind, tape_begin, tape_hand_back, tape_end, tape_abandon}
use Rattle.tape.specs.TapeRecord.{block_after}

-- a call with its arguments: the piece; keep, and the bytes handed back; and of a split rewind the held bytes, a block, and keep
pub data Call : Type 0 where
  Append : ByteString → Call
  Rewind : ℕ → ByteString → Call
  Begin : ByteString → Call
  HandBack : ByteString → Call
  End : ℕ → Call
  Abandon : Call

-- what is kept of an order between calls: its record, and the bytes of its roll, none if it has no roll
pub record Order : Type 0 where
  pub kept : Record
  pub roll : List ℕ

-- what an outcome gives, with the bytes of the roll after the call
unfoldable pub given : Outcome → List ℕ → Given Order
given o roll = record { answer = record { number = o.number; count = o.count }; next = record { kept = o.next; roll = roll } }

-- a call on the order, without a roll or with it; of the steps of a split rewind only the end takes the roll
abbrev pub order_call : Lent → Order → Call → Given Order
order_call lent o (Append piece) =
    by_lent lent (given (append_call o.kept piece.list) o.roll)
    (given (append_roll_call o.kept piece.list o.roll) (appended_roll o.kept piece.list o.roll))
order_call lent o (Rewind keep h) =
    by_lent lent (given (rewind_call o.kept keep h.list) o.roll)
    (given (rewind_roll_call o.kept keep h.list o.roll) (rewound_roll o.kept keep h.list o.roll))
order_call lent o (Begin h) = given (begin_call o.kept h.list) o.roll
order_call lent o (HandBack block) = given (hand_back_call o.kept block.list) o.roll
order_call lent o (End keep) =
    by_lent lent (given (end_call o.kept keep) o.roll) (given (end_roll_call o.kept keep o.roll) (ended_roll o.kept keep o.roll))
order_call lent o Abandon = given (abandon_call o.kept) o.roll

-- a call on the tape of word size w
abbrev pub tape_call : ℕ → Lent → Tape → Call → Given Tape
tape_call w lent t (Append piece) = tape_append w lent t piece.list
tape_call w lent t (Rewind keep h) = tape_rewind w t keep (length h.list)
tape_call w lent t (Begin h) = tape_begin w t (length h.list)
tape_call w lent t (HandBack block) = tape_hand_back w t (length block.list)
tape_call w lent t (End keep) = tape_end w t keep
tape_call w lent t Abandon = tape_abandon t

-- what the tape has where a call hands back: for a Rewind its last bytes, as many as h has, for a begin those after its whole blocks, and for a
-- hand-back its last whole block not yet handed back
abbrev pub Brings : ℕ → Tape → Call → Type 0
Brings w t (Append piece) = Unit {0}
Brings w t (Rewind keep h) = h.list ≡ drop (length t.bytes - length h.list) t.bytes
Brings w t (Begin h) = h.list ≡ rest_of (size_of w) t.bytes
Brings w t (HandBack block) = block.list ≡ block_after w t.bytes (whole_blocks w t.bytes - (t.number + 1))
Brings w t (End keep) = Unit {0}
Brings w t Abandon = Unit {0}

-- a call that the tape accepts brings what the tape has there
abbrev pub HandsBack : ℕ → Lent → Tape → Call → Type 0
HandsBack w lent t c = (tape_call w lent t c).answer.number ≡ 0 → Brings w t c

-- the blocks run forward are in the counts of Append, those run backward in the counts of Rewind and of the ends of split rewinds
abbrev pub forward_count : Call → Answer → ℕ
forward_count (Append piece) a = a.count
forward_count (Rewind keep h) a = 0
forward_count (Begin h) a = 0
forward_count (HandBack block) a = 0
forward_count (End keep) a = 0
forward_count Abandon a = 0

abbrev pub backward_count : Call → Answer → ℕ
backward_count (Append piece) a = 0
backward_count (Rewind keep h) a = a.count
backward_count (Begin h) a = 0
backward_count (HandBack block) a = 0
backward_count (End keep) a = a.count
backward_count Abandon a = 0

-- Lists of calls on an order that begins with the record r, and with a new roll if it is lent one; the same calls on the tape that begins with the bytes
-- s; and the premise of demand 3.
-- Assumes nothing.
use Rattle.std.specs.Prelude.{◌≡◌, List, ℕ}
use Rattle.orders.specs.declared.Record.{Record}
use Rattle.tape.specs.Sequence.{Answer, after, answers, Throughout}
use Rattle.tape.specs.Tape.{Lent, Tape, plain}
use Rattle.tape.specs.TapeRecord.{tape_record}
use Rattle.tape.specs.Calls.{Call, Order, order_call, tape_call, HandsBack}
use Rattle.tape.specs.TapeRoll.{RollShows, lent_roll}

-- a new order, what is kept of it after the calls, and their answers
unfoldable pub new_order : ℕ → Lent → Record → Order
new_order w lent r = record { kept = r; roll = lent_roll w lent }

unfoldable pub order_after : ℕ → Lent → Record → List Call → Order
order_after w lent r cs = after (order_call lent) (new_order w lent r) cs

unfoldable pub order_answers : ℕ → Lent → Record → List Call → List Answer
order_answers w lent r cs = answers (order_call lent) (new_order w lent r) cs

-- the tape after the same calls, and its answers
unfoldable pub tape_after : ℕ → Lent → List ℕ → List Call → Tape
tape_after w lent s cs = after (tape_call w lent) (plain s) cs

unfoldable pub tape_answers : ℕ → Lent → List ℕ → List Call → List Answer
tape_answers w lent s cs = answers (tape_call w lent) (plain s) cs

-- the premise: each Rewind, begin and hand-back that the tape accepts brings the bytes that the tape has there
unfoldable pub Premise : ℕ → Lent → List ℕ → List Call → Type 0
Premise w lent s cs = Throughout (tape_call w lent) (HandsBack w lent) (plain s) cs

-- the answers with their counts are the tape's; the record is that of the tape; and the roll, if there is one, shows the tape's chains
pub record AsTape (w n : ℕ) (lent : Lent) (r : Record) (s : List ℕ) (cs : List Call) : Type 0 where
  pub agree : order_answers w lent r cs ≡ tape_answers w lent s cs
  pub remains : (order_after w lent r cs).kept ≡ tape_record w n (tape_after w lent s cs)
  pub shows : RollShows lent w n (tape_after w lent s cs).bytes (order_after w lent r cs).roll

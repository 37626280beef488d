-- Demand 3: what is said of an order after a list of Append and Rewind calls and steps of split rewinds, from a newly opened record on, and a new roll if
-- the order has one.
-- Assumes nothing.
use Rattle.std.specs.Prelude.{◌≡◌, List, [], ℕ, ◌+◌}
use Rattle.orders.specs.Open.{open_call}
use Rattle.tape.specs.Sequence.{sum}
use Rattle.tape.specs.Tape.{Lent, whole_blocks}
use Rattle.tape.specs.Calls.{Call, forward_count, backward_count}
use Rattle.tape.specs.Orders.{order_answers, tape_after, AsTape}

-- the order is as the tape, which is empty at first; and the blocks run forward are those run backward and the whole blocks that remain
pub record Corrected (w n : ℕ) (lent : Lent) (cs : List Call) : Type 0 where
  pub as_tape : AsTape w n lent (open_call w n).next [] cs
  pub blocks :
      sum forward_count cs (order_answers w lent (open_call w n).next cs)
      ≡ sum backward_count cs (order_answers w lent (open_call w n).next cs) + whole_blocks w (tape_after w lent [] cs).bytes

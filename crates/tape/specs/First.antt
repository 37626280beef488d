-- How an order begins: it is newly opened, or a tag is started with a key. What demand 3 says from either beginning on.
-- Assumes nothing.
use Rattle.std.specs.Prelude.{◌≡◌, List, [], ℕ, ◌+◌}
use Rattle.orders.specs.declared.Outcome.{Outcome}
use Rattle.orders.specs.Open.{open_call}
use Rattle.tags.specs.Hmac.{inner_key}
use Rattle.tags.specs.Start.{start_call}
use Rattle.tape.specs.Sequence.{sum}
use Rattle.tape.specs.Tape.{Lent, whole_blocks}
use Rattle.tape.specs.Calls.{Call, forward_count, backward_count}
use Rattle.tape.specs.Orders.{order_answers, tape_after, AsTape}

pub data First : Type 0 where
  Opened : First
  Started : List ℕ → First

abbrev pub first_call : ℕ → ℕ → First → Outcome
first_call w n Opened = open_call w n
first_call w n (Started key) = start_call w n key

-- what the tape has then: nothing, or the key's inner block
abbrev pub first_bytes : ℕ → ℕ → First → List ℕ
first_bytes w n Opened = []
first_bytes w n (Started key) = inner_key w n key

-- the order is as the tape; and the count of the first call, which is 0 of an Open and 1 of a start, stands beside those of the Appends
pub record CorrectedFrom (w n : ℕ) (first : First) (lent : Lent) (cs : List Call) : Type 0 where
  pub as_tape : AsTape w n lent (first_call w n first).next (first_bytes w n first) cs
  pub blocks :
      (first_call w n first).count + sum forward_count cs (order_answers w lent (first_call w n first).next cs)
      ≡ sum backward_count cs (order_answers w lent (first_call w n first).next cs) + whole_blocks w (tape_after w lent (first_bytes w n first) cs).bytes

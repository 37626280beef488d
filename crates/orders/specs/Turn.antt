-- A call on a record, by the answer of its tests; and the tests that every call makes which changes an order.
-- Assumes nothing.
use Rattle.std.specs.Prelude.{Bool, not, cond, ℕ, eqb}
use Rattle.orders.specs.declared.Record.{Record}
use Rattle.orders.specs.declared.Outcome.{Outcome}
use Rattle.orders.specs.Record.{sound, refused}

-- what the rest of the call gives if the answer is 0, else refused with it
unfoldable pub answered : ℕ → Record → Outcome → Outcome
answered answer r rest = cond (eqb answer 0) rest (refused answer r)

-- 3 if the record is not sound, then 17 if the call is out of turn, else 0
unfoldable pub turn_answer : Record → Bool → ℕ
turn_answer r out = cond (not (sound r)) 3 (cond out 17 0)

-- a call in turn: what the rest of it gives, if it is not refused with 3 or 17
unfoldable pub in_turn : Record → Bool → Outcome → Outcome
in_turn r out rest = answered (turn_answer r out) r rest

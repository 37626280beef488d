-- Abandon: the record is again as it was before the rewind began.
-- Assumes nothing.
use Rattle.std.specs.Prelude.{not}
use Rattle.orders.specs.declared.Record.{Record}
use Rattle.orders.specs.declared.Outcome.{Outcome}
use Rattle.orders.specs.Split.{not_begun}
use Rattle.orders.specs.Record.{is_begun, stepped}
use Rattle.orders.specs.Turn.{in_turn}

-- Abandon: out of turn while none is begun; else 0
unfoldable pub abandon_call : Record → Outcome
abandon_call r = in_turn r (not (is_begun r)) (stepped r not_begun)

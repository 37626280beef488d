-- Begin: a rewind that is split into steps begins with the held bytes.
-- Assumes nothing.
use Rattle.std.specs.Prelude.{not, cond, List, [], ℕ, eqb, length}
use Rattle.orders.specs.declared.Record.{Record}
use Rattle.orders.specs.declared.Split.{Split}
use Rattle.orders.specs.declared.Outcome.{Outcome}
use Rattle.orders.specs.Record.{held_of, held_length, is_begun, refused, stepped}
use Rattle.orders.specs.Turn.{in_turn}
use Rattle.orders.specs.Rewind.{held_differs}

-- one begun, and no block handed back: the second chain is the first
unfoldable pub begun : Record → Split
begun r = record { mark = 1; second = r.chain; back = held_of []; blocks = 0 }

-- Begin: out of turn while one is begun; 6 if the bytes are not as many as are held, 8 if they are not those, else 0
unfoldable pub begin_call : Record → List ℕ → Outcome
begin_call r h =
    in_turn r (is_begun r)
    (cond (not (eqb (length h) (held_length r.w r.total))) (refused 6 r)
    (cond (held_differs r h) (refused 8 r)
    (stepped r (begun r))))

-- Append: the answer's number, the count of blocks and the record that follows.
-- Assumes nothing.
use Rattle.std.specs.Prelude.{cond, List, ◌++◌, ℕ, ◌+◌, ◌-◌, ◌/◌, ltb, length}
use Rattle.lsh.specs.WordSize.{size_of, block_bytes}
use Rattle.lsh.specs.Block.{forwards}
use Rattle.lsh.specs.Padding.{blocks_of, rest_of}
use Rattle.limits.specs.Limits.{limit}
use Rattle.orders.specs.declared.Record.{Record}
use Rattle.orders.specs.declared.Outcome.{Outcome}
use Rattle.orders.specs.Record.{held_of, held_bytes, is_begun, refused}
use Rattle.orders.specs.Turn.{in_turn}

-- the record after a piece: the bytes held and the piece are one string, its whole blocks are run and its rest is held
unfoldable pub appended : Record → List ℕ → Record
appended r piece =
    record {
      w = r.w;
      n = r.n;
      total = r.total + length piece;
      chain = forwards (size_of r.w) (blocks_of (size_of r.w) (held_bytes r ++ piece)) r.chain;
      held = held_of (rest_of (size_of r.w) (held_bytes r ++ piece));
      split = r.split;
    }

-- an accepted Append: its count is how many more whole blocks the order has
unfoldable pub append_accepted : Record → List ℕ → Outcome
append_accepted r piece =
    record {
      number = 0;
      count = (r.total + length piece) / block_bytes (size_of r.w) - r.total / block_bytes (size_of r.w);
      next = appended r piece;
    }

-- Append: out of turn while a split rewind is begun; 5 if the order would pass the limit, else 0
unfoldable pub append_call : Record → List ℕ → Outcome
append_call r piece =
    in_turn r (is_begun r)
    (cond (ltb limit (r.total + length piece)) (refused 5 r)
    (append_accepted r piece))

-- An order taken up at a checkpoint of its roll.
-- Assumes nothing.
use Rattle.std.specs.Prelude.{◌≡◌, List, ℕ, ◌-◌, ◌*◌, take, drop}
use Rattle.lsh.specs.WordSize.{size_of, block_bytes}
use Rattle.orders.specs.declared.Outcome.{Outcome}
use Rattle.orders.specs.Record.{record_of, record_at}
use Rattle.orders.specs.Append.{append_call}
use Rattle.tape.specs.Tape.{whole_blocks}

-- t is the chain of the checkpoint after k blocks of an order with the bytes s: the record made of it is that of the order's first k blocks, and with the
-- rest of the bytes appended it is that of the order
pub record TakenUp (w n k : ℕ) (t s : List ℕ) : Type 0 where
  pub recorded : record_at w n k t ≡ record_of w n (take (k * block_bytes (size_of w)) s)
  pub goes_on :
      ◌≡◌ {A = Outcome} (append_call (record_at w n k t) (drop (k * block_bytes (size_of w)) s))
      (record { number = 0; count = whole_blocks w s - k; next = record_of w n s })

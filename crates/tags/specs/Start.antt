-- The start of a tag over pieces: the answer's number, the count of blocks and the record that follows.
-- Assumes nothing.
use Rattle.std.specs.Prelude.{List, ℕ, length}
use Rattle.orders.specs.declared.Outcome.{Outcome}
use Rattle.orders.specs.Record.{zeros}
use Rattle.orders.specs.Open.{opened}
use Rattle.orders.specs.Turn.{answered}
use Rattle.orders.specs.Append.{append_accepted}
use Rattle.tags.specs.Hmac.{inner_key}
use Rattle.tags.specs.KeyAnswer.{key_answer}

-- the key's inner block appended to a newly opened record, as the first of the pieces; a refused start returns a record of zeros
unfoldable pub start_call : ℕ → ℕ → List ℕ → Outcome
start_call w n key = answered (key_answer w n (length key) 0) zeros (append_accepted (opened w n) (inner_key w n key))

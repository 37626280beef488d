-- Open: the answer's number, the count of blocks and the record that follows.
-- Assumes nothing.
use Rattle.std.specs.Prelude.{not, cond, [], ℕ}
use Rattle.lsh.specs.WordSize.{is_word_size, size_of}
use Rattle.lsh.specs.Opening.{opening}
use Rattle.limits.specs.Limits.{is_digest_length}
use Rattle.orders.specs.declared.Record.{Record}
use Rattle.orders.specs.declared.Outcome.{Outcome}
use Rattle.orders.specs.Split.{not_begun}
use Rattle.orders.specs.Record.{held_of, zeros, refused}

-- the record of an order without bytes
unfoldable pub opened : ℕ → ℕ → Record
opened w n = record { w = w; n = n; total = 0; chain = opening (size_of w) n; held = held_of []; split = not_begun }

-- Open: 1 if w is neither 32 nor 64, then 2 if n is no digest length of w, else 0
unfoldable pub open_call : ℕ → ℕ → Outcome
open_call w n =
    cond (not (is_word_size w)) (refused 1 zeros)
    (cond (not (is_digest_length w n)) (refused 2 zeros)
    (record { number = 0; count = 0; next = opened w n }))

-- The record of an order: when it is sound, the bytes it holds, and the record of a byte string; and the answer to a refused call.
-- Assumes nothing.
use Rattle.std.specs.Prelude.{Bool, ◌&&◌, List, [], ℕ, ◌*◌, ◌%◌, ◌^◌, eqb, leb, length, take, drop, replicate}
use Rattle.lsh.specs.WordSize.{is_word_size, size_of, block_bytes}
use Rattle.lsh.specs.Block.{forwards}
use Rattle.lsh.specs.Opening.{opening}
use Rattle.lsh.specs.Padding.{blocks_of, rest_of}
use Rattle.limits.specs.Limits.{longest_block, is_digest_length, limit}
use Rattle.lists.specs.ZeroFilled.{zero_filled}
use Rattle.orders.specs.declared.Record.{Record}
use Rattle.orders.specs.declared.Split.{Split}
use Rattle.orders.specs.declared.Outcome.{Outcome}
use Rattle.lists.specs.Lists.{all_below, all_zero}
use Rattle.orders.specs.Split.{not_begun, split_sound}

-- the bytes s, and zeros after them, as many in all as a block has at most
unfoldable pub held_of : List ℕ → List ℕ
held_of s = zero_filled longest_block s

-- how many bytes are held of an order of this total: those after its last whole block
abbrev pub held_length : ℕ → ℕ → ℕ
held_length w total = total % block_bytes (size_of w)

-- a record that the calls take: its figures are in range, its words fit in w bits, each byte after those held is 0, and what it has of a split rewind
-- is sound
unfoldable pub sound : Record → Bool
sound r =
    is_word_size r.w
    && is_digest_length r.w r.n
    && leb r.total limit
    && all_below (2 ^ r.w) r.chain
    && all_zero (drop (held_length r.w r.total) r.held)
    && split_sound r.w r.total r.chain r.split

-- a split rewind is begun
unfoldable pub is_begun : Record → Bool
is_begun r = eqb r.split.mark 1

-- the bytes held
unfoldable pub held_bytes : Record → List ℕ
held_bytes r = take (held_length r.w r.total) r.held

-- the record of zeros, which a refused Open returns
unfoldable pub zeros : Record
zeros = record { w = 0; n = 0; total = 0; chain = replicate 16 0; held = replicate longest_block 0; split = not_begun }

-- the record of the bytes m: the opening chain run over their whole blocks, and the rest held; no split rewind is begun
unfoldable pub record_of : ℕ → ℕ → List ℕ → Record
record_of w n m =
    record {
      w = w;
      n = n;
      total = length m;
      chain = forwards (size_of w) (blocks_of (size_of w) m) (opening (size_of w) n);
      held = held_of (rest_of (size_of w) m);
      split = not_begun;
    }

-- the record of an order of k whole blocks whose chain is t, as it is made of a checkpoint
unfoldable pub record_at : ℕ → ℕ → ℕ → List ℕ → Record
record_at w n k t =
    record { w = w; n = n; total = k * block_bytes (size_of w); chain = t; held = held_of []; split = not_begun }

-- the record with another split rewind, the rest as it is
unfoldable pub with_split : Record → Split → Record
with_split r s = record { w = r.w; n = r.n; total = r.total; chain = r.chain; held = r.held; split = s }

-- an accepted step of a split rewind: no block is counted
unfoldable pub stepped : Record → Split → Outcome
stepped r s = record { number = 0; count = 0; next = with_split r s }

-- a refused call: no block is run, and the record is as given here
unfoldable pub refused : ℕ → Record → Outcome
refused number r = record { number = number; count = 0; next = r }

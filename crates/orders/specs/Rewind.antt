-- Rewind: the last bytes h of an order, from the beginning of a block on, are handed back, and the first keep of them remain.
-- Assumes nothing.
use Rattle.std.specs.Prelude.{Bool, not, cond, ◌&&◌, ◌||◌, List, ℕ, ◌+◌, ◌-◌, ◌/◌, ◌%◌, eqb, ltb, leb, length, take, drop}
use Rattle.lsh.specs.WordSize.{size_of, block_bytes}
use Rattle.lsh.specs.Block.{backwards}
use Rattle.lsh.specs.Opening.{opening}
use Rattle.lsh.specs.Padding.{blocks_of}
use Rattle.lists.specs.Equal.{equal}
use Rattle.orders.specs.declared.Record.{Record}
use Rattle.orders.specs.declared.Outcome.{Outcome}
use Rattle.orders.specs.Split.{not_begun}
use Rattle.orders.specs.Record.{held_of, held_length, held_bytes, is_begun, refused}
use Rattle.orders.specs.Turn.{in_turn}

-- 6, with blocks of b bytes: the size bytes handed back are more than the total, or do not begin with a block
unfoldable pub starts_off_block : ℕ → ℕ → ℕ → Bool
starts_off_block b total size = ltb total size || not (eqb ((total - size) % b) 0)

-- 7: what remains of them is more than was handed back, or a block or more
unfoldable pub keeps_too_much : ℕ → ℕ → ℕ → Bool
keeps_too_much b keep size = ltb size keep || leb b keep

-- 8: as many of the last bytes of h as are held are not those held
unfoldable pub held_differs : Record → List ℕ → Bool
held_differs r h = not (equal (drop (length h - held_length r.w r.total) h) (held_bytes r))

-- the chain that the blocks of h, run backward from the last, reach
unfoldable pub reached : Record → List ℕ → List ℕ
reached r h = backwards (size_of r.w) (blocks_of (size_of r.w) h) r.chain

-- the end of an order that is cut off: how many bytes were handed back, how many of them remain, the chain that they lead back to, and the bytes whose
-- first remain
pub record Cut : Type 0 where
  pub size : ℕ
  pub keep : ℕ
  pub chain : List ℕ
  pub bytes : List ℕ

-- 9: all of the order was handed back, and the chain reached is not the opening chain
unfoldable pub opening_differs : Record → Cut → Bool
opening_differs r c = eqb (r.total - c.size) 0 && not (equal c.chain (opening (size_of r.w) r.n))

-- the record of what remains
unfoldable pub rewound : Record → Cut → Record
rewound r c =
    record {
      w = r.w;
      n = r.n;
      total = r.total - c.size + c.keep;
      chain = c.chain;
      held = held_of (take c.keep c.bytes);
      split = not_begun;
    }

-- the answer where the tests before 9 are passed: 9, else 0 with the number of blocks run backward
unfoldable pub cut_call : Record → Cut → Outcome
cut_call r c =
    cond (opening_differs r c) (refused 9 r)
    (record { number = 0; count = c.size / block_bytes (size_of r.w); next = rewound r c })

-- a Rewind in turn: 6, 7, 8, 9, else 0
unfoldable pub rewind_in_turn : Record → ℕ → List ℕ → Outcome
rewind_in_turn r keep h =
    cond (starts_off_block (block_bytes (size_of r.w)) r.total (length h)) (refused 6 r)
    (cond (keeps_too_much (block_bytes (size_of r.w)) keep (length h)) (refused 7 r)
    (cond (held_differs r h) (refused 8 r)
    (cut_call r (record { size = length h; keep = keep; chain = reached r h; bytes = h }))))

-- Rewind: out of turn while a split rewind is begun
unfoldable pub rewind_call : Record → ℕ → List ℕ → Outcome
rewind_call r keep h = in_turn r (is_begun r) (rewind_in_turn r keep h)

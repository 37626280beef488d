-- What a record has of a split rewind: the mark, 0 or 1 once begun; the second chain, which is run back so far; the bytes handed back last; and the
-- number of blocks handed back.
-- Assumes nothing.
use Rattle.std.specs.Prelude.{Bool, not, ◌&&◌, ◌||◌, List, ℕ, ◌/◌, ◌^◌, eqb, leb, drop, replicate}
use Rattle.lsh.specs.WordSize.{size_of, block_bytes}
use Rattle.limits.specs.Limits.{longest_block}
use Rattle.lists.specs.Equal.{equal}
use Rattle.orders.specs.declared.Split.{Split}
use Rattle.lists.specs.Lists.{all_below, all_zero}

-- none is begun
unfoldable pub not_begun : Split
not_begun = record { mark = 0; second = replicate 16 0; back = replicate longest_block 0; blocks = 0 }

-- sound with none begun: all are zero
unfoldable pub none_begun : Split → Bool
none_begun s = eqb s.mark 0 && eqb s.blocks 0 && all_zero s.second && all_zero s.back

-- sound with one begun, in an order of this total and chain: the blocks do not exceed the order, the words are below 2 ^ w, what is after a block's
-- bytes is zero, and with no block handed back the second chain is the first and those bytes are zero
unfoldable pub one_begun : ℕ → ℕ → List ℕ → Split → Bool
one_begun w total chain s =
    eqb s.mark 1
    && leb s.blocks (total / block_bytes (size_of w))
    && all_below (2 ^ w) s.second
    && all_zero (drop (block_bytes (size_of w)) s.back)
    && (not (eqb s.blocks 0) || equal s.second chain && all_zero s.back)

unfoldable pub split_sound : ℕ → ℕ → List ℕ → Split → Bool
split_sound w total chain s = none_begun s || one_begun w total chain s

-- Hand-back: the last whole block of the order that was not yet handed back is run backward on the second chain.
-- Assumes nothing.
use Rattle.std.specs.Prelude.{Bool, not, cond, ◌||◌, List, ℕ, ◌+◌, ◌/◌, eqb, leb, length}
use Rattle.lsh.specs.WordSize.{size_of, block_bytes}
use Rattle.lsh.specs.Block.{backwards}
use Rattle.lsh.specs.Padding.{blocks_of}
use Rattle.orders.specs.declared.Record.{Record}
use Rattle.orders.specs.declared.Split.{Split}
use Rattle.orders.specs.declared.Outcome.{Outcome}
use Rattle.orders.specs.Record.{held_of, is_begun, refused, stepped}
use Rattle.orders.specs.Turn.{in_turn}

-- 6, with blocks of b bytes: the size bytes handed back are not a block, or no whole block remains
unfoldable pub no_block : ℕ → ℕ → ℕ → ℕ → Bool
no_block b total blocks size = not (eqb size b) || leb (total / b) blocks

-- a block more handed back
unfoldable pub handed_back : Record → List ℕ → Split
handed_back r block =
    record {
      mark = 1;
      second = backwards (size_of r.w) (blocks_of (size_of r.w) block) r.split.second;
      back = held_of block;
      blocks = r.split.blocks + 1;
    }

-- Hand-back: out of turn while none is begun; 6, else 0
unfoldable pub hand_back_call : Record → List ℕ → Outcome
hand_back_call r block =
    in_turn r (not (is_begun r))
    (cond (no_block (block_bytes (size_of r.w)) r.total r.split.blocks (length block)) (refused 6 r)
    (stepped r (handed_back r block)))

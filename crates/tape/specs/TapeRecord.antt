-- The record of the tape: that of its bytes, with how far a split rewind is.
-- Assumes nothing.
use Rattle.std.specs.Prelude.{cond, List, [], ℕ, ◌-◌, ◌*◌, eqb, take, drop}
use Rattle.lsh.specs.WordSize.{size_of, block_bytes}
use Rattle.lsh.specs.Opening.{opening}
use Rattle.lsh.specs.Chains.{chain_after}
use Rattle.orders.specs.declared.Record.{Record}
use Rattle.orders.specs.declared.Split.{Split}
use Rattle.orders.specs.Split.{not_begun}
use Rattle.orders.specs.Record.{held_of, with_split, record_of}
use Rattle.tape.specs.Tape.{Tape, whole_blocks}

-- the tape's block after the first m
unfoldable pub block_after : ℕ → List ℕ → ℕ → List ℕ
block_after w s m = take (block_bytes (size_of w)) (drop (m * block_bytes (size_of w)) s)

-- with k blocks handed back: the one handed back last, which is the next after those not yet handed back; none if k is 0
unfoldable pub handed_last : ℕ → List ℕ → ℕ → List ℕ
handed_last w s k = cond (eqb k 0) [] (block_after w s (whole_blocks w s - k))

-- what a record of the bytes s has of a split rewind with k blocks handed back: as second chain the opening chain run over the whole blocks not yet
-- handed back
unfoldable pub tape_split : ℕ → ℕ → List ℕ → ℕ → Split
tape_split w n s k =
    record {
      mark = 1;
      second = chain_after (size_of w) (opening (size_of w) n) s (whole_blocks w s - k);
      back = held_of (handed_last w s k);
      blocks = k;
    }

unfoldable pub tape_record : ℕ → ℕ → Tape → Record
tape_record w n t = with_split (record_of w n t.bytes) (cond t.begun (tape_split w n t.bytes t.number) not_begun)

-- The plain tape of documents 01 and 02: the bytes of an order of word size w, and how far a split rewind is. It is fed the arguments of the calls and
-- nothing else: of an Append the piece, of the others keep and the length of the bytes handed back. Its refusals are by lengths, by how far a split rewind
-- is, and with a roll by the number of its slots.
-- Assumes nothing.
use Rattle.std.specs.Prelude.{Bool, true, false, not, cond, ◌||◌, List, ◌++◌, ℕ, ◌+◌, ◌-◌, ◌*◌, ◌/◌, ◌%◌, ◌≤◌, eqb, ltb, leb, length, take}
use Rattle.lsh.specs.WordSize.{size_of, block_bytes}
use Rattle.limits.specs.Limits.{limit}
use Rattle.checkpoints.specs.Due.{spacing}
use Rattle.checkpoints.specs.Slots.{most_slots}
use Rattle.tape.specs.Sequence.{Given}

-- a number of slots that a roll can have
pub record RollSize : Type 0 where
  pub slots : ℕ
  pub some : 1 ≤ slots
  pub most : slots ≤ most_slots

-- what an order is lent in all its calls: no roll, or a roll of this size
pub data Lent : Type 0 where
  NoRoll : Lent
  WithRoll : RollSize → Lent

-- the first without a roll, the second with it
abbrev pub by_lent : {A : Type 0} → Lent → A → A → A
by_lent NoRoll a b = a
by_lent (WithRoll size) a b = b

-- the tape: the bytes, the mark, which says whether a split rewind is begun, and the number of blocks handed back
pub record Tape : Type 0 where
  pub bytes : List ℕ
  pub begun : Bool
  pub number : ℕ

-- with no split rewind begun, and with one begun and k blocks handed back
unfoldable pub plain : List ℕ → Tape
plain s = record { bytes = s; begun = false; number = 0 }

unfoldable pub unfinished : List ℕ → ℕ → Tape
unfinished s k = record { bytes = s; begun = true; number = k }

-- a refused call: the tape stays as it is, with count 0
unfoldable pub stays : ℕ → Tape → Given Tape
stays number t = record { answer = record { number = number; count = 0 }; next = t }

-- an accepted call, with its count
unfoldable pub becomes : ℕ → Tape → Given Tape
becomes count t = record { answer = record { number = 0; count = count }; next = t }

-- the whole blocks of the bytes s
unfoldable pub whole_blocks : ℕ → List ℕ → ℕ
whole_blocks w s = length s / block_bytes (size_of w)

-- so many whole blocks have more checkpoints than the roll has slots
abbrev pub too_many_blocks : Lent → ℕ → Bool
too_many_blocks NoRoll blocks = false
too_many_blocks (WithRoll size) blocks = ltb size.slots (blocks / spacing)

-- Append: 17 while a split rewind is begun, then 5 if the bytes and the piece together are more than the limit, then 16 if the roll has too few slots; else
-- the piece is joined, and the count is how many more whole blocks there are
unfoldable pub tape_append : ℕ → Lent → Tape → List ℕ → Given Tape
tape_append w lent t piece =
    cond t.begun (stays 17 t)
    (cond (ltb limit (length t.bytes + length piece)) (stays 5 t)
    (cond (too_many_blocks lent (whole_blocks w (t.bytes ++ piece))) (stays 16 t)
    (becomes (whole_blocks w (t.bytes ++ piece) - whole_blocks w t.bytes) (plain (t.bytes ++ piece)))))

-- the last size bytes are handed back, of which the first keep stay: the count is how many whole blocks they have
unfoldable pub tape_cut : ℕ → Tape → ℕ → ℕ → Given Tape
tape_cut w t size keep = becomes (size / block_bytes (size_of w)) (plain (take (length t.bytes - size + keep) t.bytes))

-- Rewind of size bytes: 17 while a split rewind is begun, then 6 if they are more than the tape has or do not begin with a block, then 7 if keep is more
-- than size, or a block or more
unfoldable pub tape_rewind : ℕ → Tape → ℕ → ℕ → Given Tape
tape_rewind w t keep size =
    cond t.begun (stays 17 t)
    (cond (ltb (length t.bytes) size || not (eqb ((length t.bytes - size) % block_bytes (size_of w)) 0)) (stays 6 t)
    (cond (ltb size keep || leb (block_bytes (size_of w)) keep) (stays 7 t)
    (tape_cut w t size keep)))

-- Begin with size bytes: 17 while one is begun, then 6 if they are not as many as are past the last whole block
unfoldable pub tape_begin : ℕ → Tape → ℕ → Given Tape
tape_begin w t size =
    cond t.begun (stays 17 t)
    (cond (not (eqb size (length t.bytes % block_bytes (size_of w)))) (stays 6 t)
    (becomes 0 (unfinished t.bytes 0)))

-- Hand-back of size bytes: 17 while none is begun, then 6 if they are not a block or no whole block remains
unfoldable pub tape_hand_back : ℕ → Tape → ℕ → Given Tape
tape_hand_back w t size =
    cond (not t.begun) (stays 17 t)
    (cond (not (eqb size (block_bytes (size_of w))) || leb (whole_blocks w t.bytes) t.number) (stays 6 t)
    (becomes 0 (unfinished t.bytes (t.number + 1))))

-- how many bytes were handed back: the blocks, and the bytes past the last whole block
unfoldable pub tape_handed : ℕ → Tape → ℕ
tape_handed w t = t.number * block_bytes (size_of w) + length t.bytes % block_bytes (size_of w)

-- End: 17 while none is begun, then 7 as at a Rewind
unfoldable pub tape_end : ℕ → Tape → ℕ → Given Tape
tape_end w t keep =
    cond (not t.begun) (stays 17 t)
    (cond (ltb (tape_handed w t) keep || leb (block_bytes (size_of w)) keep) (stays 7 t)
    (tape_cut w t (tape_handed w t) keep))

-- Abandon: 17 while none is begun
unfoldable pub tape_abandon : Tape → Given Tape
tape_abandon t = cond (not t.begun) (stays 17 t) (becomes 0 (plain t.bytes))

-- A roll of checkpoints: slots that are linked from the head on, each with a chain.
-- Assumes nothing.
use Rattle.std.specs.Prelude.{Bool, not, cond, ◌&&◌, List, [], ◌∷◌, ℕ, zero, suc, ◌*◌, ◌/◌, eqb, length, drop, replicate}
use Rattle.lsh.specs.WordSize.{WordSize, size_of, block_bytes}
use Rattle.lsh.specs.Bytes.{word_at, words_of}
use Rattle.answers.specs.First.{first}
use Rattle.orders.specs.declared.Record.{Record}
use Rattle.orders.specs.Turn.{turn_answer}
use Rattle.checkpoints.specs.Due.{Checkpoint, spacing}
use Rattle.checkpoints.specs.Slots.{index_bytes, roll_bytes, slot_count, is_roll_length, index_place, chain_place}
use Rattle.checkpoints.specs.Members.{repeats, all_up_to}

-- a new roll of k slots
unfoldable pub new_roll : WordSize → ℕ → List ℕ
new_roll z k = replicate (roll_bytes z k) 0

-- the index that leads on from slot i; 0 is the head
unfoldable pub next_index : WordSize → List ℕ → ℕ → ℕ
next_index z s i = word_at index_bytes s (index_place z i)

-- the slots visited from index i on, where next leads from each, n of them at most; index 0 ends the walk
abbrev pub visited : (ℕ → ℕ) → ℕ → ℕ → List ℕ
visited next zero i = []
visited next (suc n) i = cond (eqb i 0) [] (i ∷ visited next n (next i))

-- the slots visited on the walk from the head. A walk that visits one more than there are has visited one of them twice, or an index beyond them
unfoldable pub links : WordSize → List ℕ → List ℕ
links z s = visited (next_index z s) (suc (slot_count z (length s))) (next_index z s 0)

-- the chain of slot i
unfoldable pub chain_in : WordSize → List ℕ → ℕ → List ℕ
chain_in z s i = words_of z 16 (drop (chain_place z i) s)

-- the checkpoints in the slots l, of which the first is the k-th on the roll: it is the one after 64 k blocks
abbrev pub checkpoints_in : WordSize → List ℕ → ℕ → List ℕ → List Checkpoint
checkpoints_in z s k [] = []
checkpoints_in z s k (i ∷ l) = record { number = spacing * k; chain = chain_in z s i } ∷ checkpoints_in z s (suc k) l

-- the checkpoints that the roll shows, in the order of its links
unfoldable pub shown : WordSize → List ℕ → List Checkpoint
shown z s = checkpoints_in z s 1 (links z s)

-- a buffer of right length, with no index beyond the slots and no slot visited twice on the walk from the head
unfoldable pub is_roll : WordSize → List ℕ → Bool
is_roll z s = is_roll_length z (length s) && all_up_to (slot_count z (length s)) (links z s) && not (repeats (links z s))

-- how many checkpoints an order of so many bytes has: one for every 64 of its whole blocks
unfoldable pub checkpoints : ℕ → ℕ → ℕ
checkpoints w total = total / block_bytes (size_of w) / spacing

-- a roll of the record: it has a link for each of the record's checkpoints. If not, the answer is 15
unfoldable pub is_roll_of : Record → List ℕ → Bool
is_roll_of r s = is_roll (size_of r.w) s && eqb (length (links (size_of r.w) s)) (checkpoints r.w r.total)

-- the tests that a call with a roll makes first: those of a call in turn, then 15 if the roll is none of the record, else 0
unfoldable pub roll_answer : Record → Bool → List ℕ → ℕ
roll_answer r out s = first (turn_answer r out) (cond (not (is_roll_of r s)) 15 0)

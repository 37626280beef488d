-- Checkpoints inserted on a roll, and taken off it; and the roll after a call.
-- Assumes nothing.
use Rattle.std.specs.Prelude.{cond, List, [], ◌∷◌, ℕ, eqb, ltb, length}
use Rattle.std.proofs.lemmas.List.Edits.{sets}
use Rattle.lsh.specs.Tabulate.{at, tabulate}
use Rattle.lsh.specs.WordSize.{WordSize}
use Rattle.lsh.specs.Bytes.{byte_at, bytes_of}
use Rattle.orders.specs.declared.Outcome.{Outcome}
use Rattle.checkpoints.specs.Due.{Checkpoint, numbers_of, up_to}
use Rattle.checkpoints.specs.Slots.{index_bytes, slot_count, index_place, chain_place}
use Rattle.checkpoints.specs.Roll.{links, shown}
use Rattle.checkpoints.specs.FreeSlot.{free_slot}

-- the index next written where it leads on from slot i; 0 is the head
unfoldable pub with_index : WordSize → List ℕ → ℕ → ℕ → List ℕ
with_index z s i next = sets s (index_place z i) (tabulate index_bytes (byte_at next))

-- slot i written: it has the chain t, and no slot after it
unfoldable pub with_slot : WordSize → List ℕ → ℕ → List ℕ → List ℕ
with_slot z s i t = sets (with_index z s i 0) (chain_place z i) (bytes_of z t)

-- the slot before the m-th link, counted from 0: the head, or the link before
unfoldable pub lead_to : WordSize → List ℕ → ℕ → ℕ
lead_to z s m = at (0 ∷ links z s) m

-- the slot that the next checkpoint takes
unfoldable pub taken : WordSize → List ℕ → ℕ
taken z s = free_slot (slot_count z (length s)) (links z s)

-- a checkpoint is inserted: the slot taken is written, and linked behind the last
unfoldable pub inserted : WordSize → Checkpoint → List ℕ → List ℕ
inserted z c s = with_index z (with_slot z s (taken z s) c.chain) (lead_to z s (length (links z s))) (taken z s)

-- checkpoints are inserted, one after the other
abbrev pub inserted_all : WordSize → List Checkpoint → List ℕ → List ℕ
inserted_all z [] s = s
inserted_all z (c ∷ cs) s = inserted_all z cs (inserted z c s)

-- the links from the m-th on are taken off, if there are any: the index that led to the first of them becomes 0, and nothing else is written
unfoldable pub unlinked : WordSize → ℕ → List ℕ → List ℕ
unlinked z m s = cond (ltb m (length (links z s))) (with_index z s (lead_to z s m) 0) s

-- the checkpoints after more than k blocks are taken off
unfoldable pub cut_to : WordSize → ℕ → List ℕ → List ℕ
cut_to z k s = unlinked z (up_to k (numbers_of (shown z s))) s

-- the roll after a call, by its answer: changed if that is 0, else as it was
unfoldable pub if_accepted : Outcome → List ℕ → List ℕ → List ℕ
if_accepted o changed roll = cond (eqb o.number 0) changed roll

-- Tally of document 01, with the three counts of W4 of document 02: the answer's number, the place of a malformed receipt, and the counts.
-- Assumes nothing.
use Rattle.std.specs.Prelude.{Bool, not, cond, ◌||◌, List, [], ◌∷◌, ℕ, zero, suc, ◌*◌, ◌/◌, ◌%◌, eqb, ltb, length, take, drop}
use Rattle.receipts.specs.Receipt.{receipt_bytes}
use Rattle.receipts.specs.WellFormed.{well_formed}
use Rattle.receipts.specs.declared.Counts.{Counts}
use Rattle.receipts.specs.Kinds.{firsts, reprints, blanks}

-- the most receipts of a list
unfoldable pub most_receipts : ℕ
most_receipts = 960

-- how many receipts the bytes s are, end to end
unfoldable pub receipt_count : List ℕ → ℕ
receipt_count s = length s / receipt_bytes

-- the one at place i, counted from 0
unfoldable pub receipt_at : List ℕ → ℕ → List ℕ
receipt_at s i = take receipt_bytes (drop (i * receipt_bytes) s)

-- the first k of them, the last one at the head
unfoldable pub receipts : List ℕ → ℕ → List (List ℕ)
receipts s zero = []
receipts s (suc k) = receipt_at s k ∷ receipts s k

-- all of them
unfoldable pub receipts_of : List ℕ → List (List ℕ)
receipts_of s = receipts s (receipt_count s)

-- the place of the first malformed one of the k receipts from place i on, or i + k if each is well formed
unfoldable pub first_malformed : List ℕ → ℕ → ℕ → ℕ
first_malformed s i zero = i
first_malformed s i (suc k) = cond (well_formed (receipt_at s i)) (first_malformed s (suc i) k) i

-- s is no list of whole receipts, or has too many
unfoldable pub is_bad_length : List ℕ → Bool
is_bad_length s = not (eqb (length s % receipt_bytes) 0) || ltb (most_receipts * receipt_bytes) (length s)

-- a refused tally, with the place of a malformed receipt or 0
unfoldable pub refused_tally : ℕ → ℕ → Counts
refused_tally number place = record { number = number; place = place; firsts = 0; reprints = 0; blanks = 0 }

unfoldable pub counted : List (List ℕ) → Counts
counted rs = record { number = 0; place = 0; firsts = firsts rs; reprints = reprints rs; blanks = blanks rs }

-- Tally: 13 if the length is wrong, then 14 with the place of the first malformed receipt, else 0 and the counts
unfoldable pub tally_call : List ℕ → Counts
tally_call s =
    cond (is_bad_length s) (refused_tally 13 0)
    (cond (ltb (first_malformed s 0 (receipt_count s)) (receipt_count s)) (refused_tally 14 (first_malformed s 0 (receipt_count s)))
    (counted (receipts_of s)))

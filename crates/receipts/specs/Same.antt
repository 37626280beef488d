-- Same of document 01, with what W3 of document 02 makes of it: when two receipts are the same, and the answer to the call.
-- Assumes nothing.
use Rattle.std.specs.Prelude.{Bool, false, not, cond, ◌&&◌, List, ℕ, eqb, length}
use Rattle.receipts.specs.Receipt.{receipt_bytes}
use Rattle.lists.specs.Equal.{equal}
use Rattle.receipts.specs.declared.Sameness.{Sameness}
use Rattle.receipts.specs.Parts.{word_size_of, digest_length_of, digest_of, bit_length_of}
use Rattle.receipts.specs.WellFormed.{well_formed}

-- word size, digest length, digest and bit length all agree
unfoldable pub same_receipt : List ℕ → List ℕ → Bool
same_receipt a b =
    eqb (word_size_of a) (word_size_of b)
    && eqb (digest_length_of a) (digest_length_of b)
    && equal (digest_of a) (digest_of b)
    && eqb (bit_length_of a) (bit_length_of b)

-- s has as many bytes as a receipt
unfoldable pub is_receipt_long : List ℕ → Bool
is_receipt_long s = eqb (length s) receipt_bytes

-- Same: 13 if a length is wrong, then 14 if one is malformed, else 0, and yes if they are the same
unfoldable pub same_call : List ℕ → List ℕ → Sameness
same_call a b =
    cond (not (is_receipt_long a && is_receipt_long b)) (record { number = 13; same = false })
    (cond (not (well_formed a && well_formed b)) (record { number = 14; same = false })
    (record { number = 0; same = same_receipt a b }))

-- The three kinds of receipts in a list, which are blanks, reprints and firsts (Tally of document 01, with W4 of document 02), and how many there are
-- of each.
-- A list has the latest receipt at its head, so that behind each one stand the earlier ones.
-- Assumes nothing.
use Rattle.std.specs.Prelude.{Bool, not, ◌&&◌, List, ℕ, eqb}
use Rattle.lists.specs.Elements.{is_one_of, how_many}
use Rattle.receipts.specs.Parts.{bit_length_of}
use Rattle.receipts.specs.Same.{same_receipt}

-- a blank is the receipt of a message without bits, whatever its word size and its digest length
unfoldable pub is_blank : List ℕ → Bool
is_blank r = eqb (bit_length_of r) 0

-- r is the same as some earlier receipt
unfoldable pub came_before : List ℕ → List (List ℕ) → Bool
came_before r earlier = is_one_of same_receipt r earlier

-- a reprint is a receipt that came before, and a first one that did not; a blank is neither
unfoldable pub is_reprint : List ℕ → List (List ℕ) → Bool
is_reprint r earlier = not (is_blank r) && came_before r earlier

unfoldable pub is_first : List ℕ → List (List ℕ) → Bool
is_first r earlier = not (is_blank r) && not (came_before r earlier)

unfoldable pub firsts : List (List ℕ) → ℕ
firsts rs = how_many is_first rs

unfoldable pub reprints : List (List ℕ) → ℕ
reprints rs = how_many is_reprint rs

unfoldable pub blanks : List (List ℕ) → ℕ
blanks rs = how_many (λ r earlier. is_blank r) rs

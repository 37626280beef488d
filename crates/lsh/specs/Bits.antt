-- Bits and bytes: within a byte the highest bit is first. A message is a list of bits.
-- Assumes nothing.
use Rattle.std.specs.Prelude.{Bool, true, false, List, [], ◌∷◌, ◌++◌, ℕ, zero, suc, ◌+◌, ◌*◌, ◌/◌, ◌%◌, ◌^◌, eqb, length, drop}
use Rattle.lsh.specs.Tabulate.{tabulate}

-- bit k of a number, counted from the lowest
unfoldable pub bit : ℕ → ℕ → Bool
bit x k = eqb (x / 2 ^ k % 2) 1

-- the bits of a byte, and of a byte string
unfoldable pub bits_of_byte : ℕ → List Bool
bits_of_byte x = bit x 7 ∷ bit x 6 ∷ bit x 5 ∷ bit x 4 ∷ bit x 3 ∷ bit x 2 ∷ bit x 1 ∷ bit x 0 ∷ []

unfoldable pub bits_of : List ℕ → List Bool
bits_of [] = []
bits_of (x ∷ s) = bits_of_byte x ++ bits_of s

-- the number of the first k bits; bits that are not there count as 0
unfoldable pub number_of : ℕ → List Bool → ℕ
number_of zero m = 0
number_of (suc k) [] = 0
number_of (suc k) (true ∷ m) = 2 ^ k + number_of k m
number_of (suc k) (false ∷ m) = number_of k m

-- byte l of a bit string is its bits 8l to 8l + 7. Where they end within the last byte, the rest of that byte is 0
unfoldable pub bytes_of_bits : List Bool → List ℕ
bytes_of_bits m = tabulate ((length m + 7) / 8) (λ l. number_of 8 (drop (8 * l) m))

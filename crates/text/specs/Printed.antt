-- Bytes as they are printed: two lower-case hexadecimal digits each, the high one first.
-- Assumes nothing.
use Rattle.std.specs.Prelude.{cond, List, [], ◌∷◌, ℕ, ◌+◌, ◌*◌, ◌/◌, ◌%◌, eqb, ltb, length}
use Rattle.lsh.specs.Tabulate.{at, tabulate}

-- the digit of a value
unfoldable pub hex_digit : ℕ → ℕ
hex_digit d = cond (ltb d 10) (48 + d) (87 + d)

-- digit k of bytes
unfoldable pub digit_at : List ℕ → ℕ → ℕ
digit_at s k = hex_digit (cond (eqb (k % 2) 0) (at s (k / 2) / 16) (at s (k / 2) % 16))

-- the digits of bytes
unfoldable pub digits_of : List ℕ → List ℕ
digits_of s = tabulate (2 * length s) (digit_at s)

-- bytes as they are printed: - for none
unfoldable pub printed : List ℕ → List ℕ
printed s = cond (eqb (length s) 0) (45 ∷ []) (digits_of s)

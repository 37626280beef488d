-- Numbers as they are printed, in decimal digits.
-- Assumes nothing.
use Rattle.std.specs.Prelude.{ℕ}

-- the most digits of a number of 64 bits
abbrev pub most_digits : ℕ
most_digits = 20

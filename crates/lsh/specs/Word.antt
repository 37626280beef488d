-- Words of w bits, as numbers below 2 ^ w: the operations of section 2.1 on them.
-- Assumes nothing.
use Rattle.std.specs.Prelude.{ℕ, zero, suc, ◌+◌, ◌-◌, ◌*◌, ◌/◌, ◌%◌, ◌^◌}

-- the sum and the difference, modulo 2 ^ w
unfoldable pub add : ℕ → ℕ → ℕ → ℕ
add w x y = (x + y) % 2 ^ w

unfoldable pub subtract : ℕ → ℕ → ℕ → ℕ
subtract w x y = (x + (2 ^ w - y)) % 2 ^ w

-- the low j bits go up by k places, and what stands above them comes down
unfoldable pub turn : ℕ → ℕ → ℕ → ℕ
turn j k x = (x % 2 ^ j) * 2 ^ k + x / 2 ^ j

-- x rotated by k places to the left and to the right, k at most w
unfoldable pub rotate_left : ℕ → ℕ → ℕ → ℕ
rotate_left w k x = turn (w - k) k x

unfoldable pub rotate_right : ℕ → ℕ → ℕ → ℕ
rotate_right w k x = turn k (w - k) x

-- the exclusive or of the w low bits: each bit is the sum of the two bits without carry
unfoldable pub xor : ℕ → ℕ → ℕ → ℕ
xor zero x y = 0
xor (suc w) x y = xor w (x / 2) (y / 2) * 2 + (x + y) % 2

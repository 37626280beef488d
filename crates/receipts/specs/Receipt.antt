-- The receipt of a message.
-- Assumes nothing.
use Rattle.std.specs.Prelude.{Bool, List, ◌∷◌, ◌++◌, ℕ, ◌/◌, ◌%◌}
use Rattle.lsh.specs.Tabulate.{tabulate}
use Rattle.lsh.specs.Bytes.{byte_at}
use Rattle.lsh.specs.Bits.{bytes_of_bits}
use Rattle.lists.specs.ZeroFilled.{zero_filled}

-- the bytes of a receipt
unfoldable pub receipt_bytes : ℕ
receipt_bytes = 76

-- the place of the digest in it
abbrev pub digest_place : ℕ
digest_place = 4

-- the place of the message's length, which takes the last eight bytes
abbrev pub length_place : ℕ
length_place = 68

-- w, zero, n with the low byte first, the digest d of n bits, zeros, and the length of the message in bits with the low byte first
unfoldable pub receipt : ℕ → ℕ → List Bool → ℕ → List ℕ
receipt w n d bits = zero_filled length_place (w ∷ 0 ∷ n % 256 ∷ n / 256 ∷ bytes_of_bits d) ++ tabulate 8 (byte_at bits)

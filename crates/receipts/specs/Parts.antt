-- The four parts of a receipt, as they are read from its bytes.
-- Assumes nothing.
use Rattle.std.specs.Prelude.{List, ℕ, ◌+◌, ◌/◌, take, drop}
use Rattle.lsh.specs.Tabulate.{at}
use Rattle.lsh.specs.Bytes.{word_at}
use Rattle.receipts.specs.Receipt.{digest_place, length_place}

-- the word size w: byte 0
unfoldable pub word_size_of : List ℕ → ℕ
word_size_of r = at r 0

-- the digest length n: bytes 2 and 3, the low byte first
unfoldable pub digest_length_of : List ℕ → ℕ
digest_length_of r = word_at 2 r 2

-- the bytes of the digest
unfoldable pub digest_of : List ℕ → List ℕ
digest_of r = take ((digest_length_of r + 7) / 8) (drop digest_place r)

-- the length of the message in bits: eight bytes, the low byte first
unfoldable pub bit_length_of : List ℕ → ℕ
bit_length_of r = word_at 8 r length_place

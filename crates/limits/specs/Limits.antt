-- What an order may have.
-- Assumes nothing.
use Rattle.std.specs.Prelude.{Bool, not, ◌&&◌, ℕ, ◌*◌, ◌^◌, eqb, leb}

-- the most bytes of a block: of 32 words of 64 bits
abbrev pub longest_block : ℕ
longest_block = 256

-- the most bits of a digest of word size w
abbrev pub longest_digest : ℕ → ℕ
longest_digest w = 8 * w

-- n is a digest length of word size w: from 1 to 8w bits
unfoldable pub is_digest_length : ℕ → ℕ → Bool
is_digest_length w n = not (eqb n 0) && leb n (longest_digest w)

-- the most bytes of an order
unfoldable pub limit : ℕ
limit = 2 ^ 40

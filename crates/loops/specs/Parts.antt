-- A block of a byte string, as the code lends it.
-- Assumes nothing.
use Rattle.std.specs.Prelude.{List, ℕ, ◌+◌, ◌-◌, ◌*◌, take, drop}
use Rattle.lsh.specs.WordSize.{WordSize, block_bytes}

-- block k of s: from place k * B to k * B + B
abbrev pub part : WordSize → List ℕ → ℕ → List ℕ
part z s k = take (k * block_bytes z + block_bytes z - k * block_bytes z) (drop (k * block_bytes z) s)

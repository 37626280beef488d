-- One-zeros padding, and the blocks of a padded message (section 2.2, Initialization).
-- Assumes nothing.
use Rattle.std.specs.Prelude.{Bool, true, false, List, [], ◌∷◌, ◌++◌, ℕ, zero, suc, ◌+◌, ◌-◌, ◌*◌, ◌/◌, length, take, drop, replicate}
use Rattle.lsh.specs.WordSize.{WordSize, block_bytes}
use Rattle.lsh.specs.Bytes.{words_of}

-- the bits of a block, 32w
unfoldable pub block_bits : WordSize → ℕ
block_bits z = 8 * block_bytes z

-- t = ⌈ (|m| + 1) / 32w ⌉
unfoldable pub block_count : WordSize → List Bool → ℕ
block_count z m = (length m + 1 + (block_bits z - 1)) / block_bits z

-- the bit 1, and then zeros to the end of the t-th block
unfoldable pub padded : WordSize → List Bool → List Bool
padded z m = m ++ true ∷ replicate (block_bits z * block_count z m - (length m + 1)) false

-- the first k blocks of a byte string, each as 32 words: (1) and (3)
unfoldable pub first_blocks : WordSize → ℕ → List ℕ → List (List ℕ)
first_blocks z zero s = []
first_blocks z (suc k) s = words_of z 32 (take (block_bytes z) s) ∷ first_blocks z k (drop (block_bytes z) s)

-- all its whole blocks
unfoldable pub blocks_of : WordSize → List ℕ → List (List ℕ)
blocks_of z s = first_blocks z (length s / block_bytes z) s

-- and what is left after them
unfoldable pub rest_of : WordSize → List ℕ → List ℕ
rest_of z s = drop (length s / block_bytes z * block_bytes z) s

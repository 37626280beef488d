-- The hash function LSH-8w-n of a message counted in bits (Algorithm 1).
-- Assumes nothing.
use Rattle.std.specs.Prelude.{Bool, List, ℕ, ◌+◌, take}
use Rattle.lsh.specs.Tabulate.{at, tabulate}
use Rattle.lsh.specs.Word.{xor}
use Rattle.lsh.specs.WordSize.{WordSize, size_of}
use Rattle.lsh.specs.Bytes.{bytes_of}
use Rattle.lsh.specs.Block.{forwards}
use Rattle.lsh.specs.Opening.{opening}
use Rattle.lsh.specs.Bits.{bits_of, bytes_of_bits}
use Rattle.lsh.specs.Padding.{padded, blocks_of}

-- the w bytes h of the final chain, and the digest: the first n bits of them (4)
unfoldable pub final_bytes : WordSize → List ℕ → List ℕ
final_bytes z t = bytes_of z (tabulate 8 (λ l. xor z.bits (at t l) (at t (l + 8))))

unfoldable pub digest : WordSize → ℕ → List ℕ → List Bool
digest z n t = take n (bits_of (final_bytes z t))

unfoldable pub hash : WordSize → ℕ → List Bool → List Bool
hash z n m = digest z n (forwards z (blocks_of z (bytes_of_bits (padded z m))) (opening z n))

-- by w
unfoldable pub lsh : ℕ → ℕ → List Bool → List Bool
lsh w n m = hash (size_of w) n m

-- HMAC of RFC 2104, section 2, over LSH and on byte strings. H is LSH-8w-n, where n is a multiple of 8; B, the bytes of a block of H, is 4w.
-- Assumes nothing.
use Rattle.std.specs.Prelude.{cond, List, ◌++◌, ℕ, ltb, length}
use Rattle.lsh.specs.Tabulate.{at, tabulate}
use Rattle.lsh.specs.Word.{xor}
use Rattle.lsh.specs.WordSize.{size_of, block_bytes}
use Rattle.lsh.specs.Bits.{bits_of, bytes_of_bits}
use Rattle.lsh.specs.Hash.{lsh}
use Rattle.lists.specs.ZeroFilled.{zero_filled}

-- H
unfoldable pub hash_bytes : ℕ → ℕ → List ℕ → List ℕ
hash_bytes w n s = bytes_of_bits (lsh w n (bits_of s))

-- the byte that ipad repeats, and the byte that opad repeats
abbrev pub inner_byte : ℕ
inner_byte = 0x36

abbrev pub outer_byte : ℕ
outer_byte = 0x5c

-- the key as B bytes: one longer than B is replaced by its digest, and zeros are appended
unfoldable pub key_block : ℕ → ℕ → List ℕ → List ℕ
key_block w n key =
    zero_filled (block_bytes (size_of w)) (cond (ltb (block_bytes (size_of w)) (length key)) (hash_bytes w n key) key)

-- each byte of a string, exclusive or the byte x
unfoldable pub xor_each : ℕ → List ℕ → List ℕ
xor_each x s = tabulate (length s) (λ i. xor 8 (at s i) x)

-- K XOR ipad, and K XOR opad
unfoldable pub inner_key : ℕ → ℕ → List ℕ → List ℕ
inner_key w n key = xor_each inner_byte (key_block w n key)

unfoldable pub outer_key : ℕ → ℕ → List ℕ → List ℕ
outer_key w n key = xor_each outer_byte (key_block w n key)

-- the tag of an inner digest: H(K XOR opad, inner)
unfoldable pub tag_of : ℕ → ℕ → List ℕ → List ℕ → List ℕ
tag_of w n key inner = hash_bytes w n (outer_key w n key ++ inner)

-- the tag of a text: H(K XOR opad, H(K XOR ipad, text))
unfoldable pub hmac : ℕ → ℕ → List ℕ → List ℕ → List ℕ
hmac w n key text = tag_of w n key (hash_bytes w n (inner_key w n key ++ text))

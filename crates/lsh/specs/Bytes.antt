-- Words and the bytes that hold them, lowest byte first.
-- Assumes nothing.
use Rattle.std.specs.Prelude.{List, ℕ, zero, suc, ◌+◌, ◌*◌, ◌/◌, ◌%◌, ◌^◌, length}
use Rattle.lsh.specs.Tabulate.{at, tabulate}
use Rattle.lsh.specs.WordSize.{WordSize, word_bytes}

-- the number of the k bytes from place a on
unfoldable pub word_at : ℕ → List ℕ → ℕ → ℕ
word_at zero s a = 0
word_at (suc k) s a = at s a + 256 * word_at k s (a + 1)

-- the first n words of a byte string (1)
unfoldable pub words_of : WordSize → ℕ → List ℕ → List ℕ
words_of z n s = tabulate n (λ l. word_at (word_bytes z) s (l * word_bytes z))

-- byte i of a word
unfoldable pub byte_at : ℕ → ℕ → ℕ
byte_at x i = x / 2 ^ (8 * i) % 256

-- the bytes of words (2)
unfoldable pub bytes_of : WordSize → List ℕ → List ℕ
bytes_of z t = tabulate (length t * word_bytes z) (λ i. byte_at (at t (i / word_bytes z)) (i % word_bytes z))

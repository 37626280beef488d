-- A group of four words, and what section 5.1 does with groups. A group is a register of 4w bits, so t of that section is 2.
-- Assumes nothing.
use Rattle.std.specs.Prelude.{List, ℕ, ◌+◌, ◌*◌}
use Rattle.lsh.specs.Tabulate.{at, tabulate}
use Rattle.lsh.specs.WordSize.{place_of}

-- group l of the words f 0, f 1, ..: the words 4l to 4l + 3 (21)
unfoldable pub group : (ℕ → ℕ) → ℕ → List ℕ
group f l = tabulate 4 (λ i. f (4 * l + i))

-- f of each word, and of each two words that stand at one place
unfoldable pub each_word : (ℕ → ℕ) → List ℕ → List ℕ
each_word f x = tabulate 4 (λ i. f (at x i))

unfoldable pub wordwise : (ℕ → ℕ → ℕ) → List ℕ → List ℕ → List ℕ
wordwise f x y = tabulate 4 (λ i. f (at x i) (at y i))

-- word i of the result is word ρ(i); taken back, word ρ(i) of the result is word i
unfoldable pub permute_words : List ℕ → List ℕ → List ℕ
permute_words ρ x = tabulate 4 (λ i. at x (at ρ i))

unfoldable pub unpermute_words : List ℕ → List ℕ → List ℕ
unpermute_words ρ x = tabulate 4 (λ i. at x (place_of i ρ))

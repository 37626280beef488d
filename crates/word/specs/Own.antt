-- A number is a word of its own, and the figures that the code has of a size are those of the definition.
-- Assumes nothing.
use Rattle.std.specs.Prelude.{◌≡◌, refl, ℕ}
use Rattle.std.proofs.lemmas.Grind.{get_or_default_zero}
use Rattle.lsh.specs.WordSize.{lsh256, lsh512, word_bytes, chain_bytes, block_bytes}
use Rattle.word.specs.Numbers.{TakesEach}

pub own : TakesEach {A = ℕ} (λ x. x) (λ t. t)
own = record { len = λ t. refl; word = λ t i d h. get_or_default_zero t i d h; stored = λ t i x. refl }

pub bytes_32 : 4 ≡ word_bytes lsh256
unfolding word_bytes lsh256
bytes_32 = refl

pub bytes_64 : 8 ≡ word_bytes lsh512
unfolding word_bytes lsh512
bytes_64 = refl

pub steps_32 : 26 ≡ lsh256.steps
unfolding lsh256
steps_32 = refl

pub steps_64 : 28 ≡ lsh512.steps
unfolding lsh512
steps_64 = refl

pub block_32 : 128 ≡ block_bytes lsh256
unfolding block_bytes lsh256
block_32 = refl

pub chain_32 : 64 ≡ chain_bytes lsh256
unfolding chain_bytes lsh256
chain_32 = refl

pub block_64 : 256 ≡ block_bytes lsh512
unfolding block_bytes lsh512
block_64 = refl

pub chain_64 : 128 ≡ chain_bytes lsh512
unfolding chain_bytes lsh512
chain_64 = refl

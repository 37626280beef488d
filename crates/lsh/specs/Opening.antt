-- The opening chain of a word size and a digest length of n bits: the initialization vector of section 2.4.
-- Assumes nothing.
use Rattle.std.specs.Prelude.{List, ◌∷◌, ℕ, replicate}
use Rattle.lsh.specs.WordSize.{WordSize}
use Rattle.lsh.specs.Block.{forward}

unfoldable pub opening : WordSize → ℕ → List ℕ
opening z n = forward z (replicate 32 0) (z.bits ∷ n ∷ replicate 14 0)

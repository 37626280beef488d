-- The most bytes of a block, and the most bits of a digest.
-- Assumes nothing.
use mathlib.Core.Path.{◌≡◌}
use mathlib.Core.Bool.{true, not}
use Prim.Native.Nat.{ℕ, ◌≤◌}
use native.Mathlib.Omega.{arith}
use borrow.Author.Tests.{leb-true}
use lib.Dec.{eqb, leb}
use Rattle.lsh.specs.WordSize.{WordSize, lsh256, lsh512, is_word_size, size_of, block_bytes}
use Rattle.lsh.proofs.Tests.{and-true}
use Rattle.lsh.proofs.Figures.{of-both, word-most}
use Rattle.limits.specs.Limits.{longest_block, longest_digest, is_digest_length}

pub block-most : (w : ℕ) → block_bytes (size_of w) ≤ longest_block
unfolding block_bytes lsh256 lsh512
block-most = of-both (λ (z : WordSize). block_bytes z ≤ longest_block) (omega arith) (omega arith)

pub digest-most : (w n : ℕ) → is_digest_length w n ≡ true → n ≤ longest_digest w
unfolding is_digest_length
digest-most w n e = leb-true n (longest_digest w) (and-true (not (eqb n 0)) (leb n (longest_digest w)) e).1

-- of either word size
pub digest-longest : (w n : ℕ) → is_word_size w ≡ true → is_digest_length w n ≡ true → n ≤ longest_digest 64
digest-longest w n word e = omega (arith, word-most w word, digest-most w n e)

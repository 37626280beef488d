-- The blocks of a byte string, as the code has them: the bytes of a block are b.
-- Assumes nothing.
use mathlib.Core.Path.{◌≡◌, ap, ◌∙◌, subst}
use mathlib.Core.List.{List}
use Prim.Native.Nat.{ℕ, ◌+◌, ◌-◌, ◌*◌, ◌/◌, ◌<◌}
use lib.ListN.{length, take, drop}
use Rattle.lsh.specs.WordSize.{WordSize, block_bytes}
use Rattle.loops.specs.Parts.{part}
use Rattle.loops.proofs.Runs.{length_part}
use Rattle.word.proofs.Sizes.{block-inside}

module _ (z : WordSize) {b : ℕ} (is : b ≡ block_bytes z) (s : List ℕ) (k : ℕ) where
  pub part-is : take (k * b + b - k * b) (drop (k * b) s) ≡ part z s k
  part-is = ap (λ (n : ℕ). take (k * n + n - k * n) (drop (k * n) s)) is

  pub length-part : k < length s / b → length (take (k * b + b - k * b) (drop (k * b) s)) ≡ block_bytes z
  length-part lt = ap length part-is ∙ length_part z s k (block-inside (block_bytes z) (subst (λ (n : ℕ). k < length s / n) is lt))

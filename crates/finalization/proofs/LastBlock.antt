-- The last block: what is left over, the pad byte and zeros.
-- Assumes nothing.
use mathlib.Core.Path.{◌≡◌, ap, ◌∙◌}
use mathlib.Core.List.{List, ◌∷◌, ◌++◌}
use Prim.Native.Nat.{ℕ, suc, ◌+◌, ◌-◌, ◌≤◌, ◌<◌}
use native.Mathlib.Omega.{arith}
use lib.ListN.{length, take, set, replicate, length-replicate, length-append}
use lib.Seq.{set-append_seam, take-append-add}
use Rattle.lsh.specs.WordSize.{size_of, block_bytes}
use Rattle.limits.specs.Limits.{longest_block}
use Rattle.limits.proofs.Limits.{block-most}
use Rattle.lists.specs.ZeroFilled.{zero_filled}
use Rattle.lists.proofs.Zeros.{take-replicate}

pub stored-block : (s : List ℕ) (p : ℕ) {b : List ℕ} → length s < longest_block → b ≡ zero_filled longest_block s
    → set b (length s) p ≡ s ++ p ∷ replicate (longest_block - 1 - length s) 0
stored-block s p h is =
    let k : ℕ = longest_block - 1 - length s in
    let left : longest_block - length s ≡ suc k = omega arith in
    ap (λ (l : List ℕ). set l (length s) p) (is ∙ ap (λ (n : ℕ). s ++ replicate n 0) left) ∙ set-append_seam s 0 (replicate k 0) p

-- and its first n bytes
block-front : (s : List ℕ) (p n : ℕ) {b : List ℕ} → length s < n → n ≤ longest_block → b ≡ s ++ p ∷ replicate (longest_block - 1 - length s) 0
    → take n b ≡ s ++ p ∷ replicate (n - 1 - length s) 0
block-front s p n h le is =
    let k : ℕ = n - 1 - length s in
    let parts : n ≡ length s + suc k = omega arith in
    ap (take n) is
    ∙ ap (λ (i : ℕ). take i (s ++ p ∷ replicate (longest_block - 1 - length s) 0)) parts
    ∙ take-append-add s (p ∷ replicate (longest_block - 1 - length s) 0) (suc k)
    ∙ ap (λ (l : List ℕ). s ++ p ∷ l) (take-replicate k (longest_block - 1 - length s) 0 (omega arith))

-- by w
module _ (w : ℕ) (s : List ℕ) (h : length s < block_bytes (size_of w)) where
  pub short : length s < longest_block
  short = omega (arith, block-most w)

  module _ (p : ℕ) {b : List ℕ} (is : b ≡ s ++ p ∷ replicate (longest_block - 1 - length s) 0) {n : ℕ} (size : n ≡ block_bytes (size_of w)) where
    pub long : n ≤ length b
    long =
        let lt : length s < longest_block = short in
        let len : length (s ++ p ∷ replicate (longest_block - 1 - length s) 0) ≡ longest_block =
        length-append s (p ∷ replicate (longest_block - 1 - length s) 0) ∙ omega (arith, length-replicate {A = ℕ} (longest_block - 1 - length s) 0) in
        rw is (omega (arith, block-most w))

    pub last_block : take n b ≡ s ++ p ∷ replicate (block_bytes (size_of w) - 1 - length s) 0
    last_block = ap (λ (k : ℕ). take k b) size ∙ block-front s p (block_bytes (size_of w)) h (block-most w) is

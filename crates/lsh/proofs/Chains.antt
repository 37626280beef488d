-- The chain after the first k blocks of a byte string: from any start, and from a further one.
-- Assumes nothing.
use mathlib.Core.Path.{◌≡◌, refl, sym, ap, ◌∙◌}
use mathlib.Core.List.{List, [], ◌∷◌, ◌++◌}
use Prim.Native.Nat.{ℕ, suc, ◌+◌, ◌*◌, ◌/◌, ◌≤◌, ◌<◌}
use native.Mathlib.Nat.{le_of_eq, mul-div_cancel}
use lib.ListN.{length, take, drop, take-append-drop}
use lib.Seq.{length-take-le}
use Rattle.lsh.specs.WordSize.{WordSize, block_bytes}
use Rattle.lsh.specs.Block.{Chain, forward, forwards}
use Rattle.lsh.specs.Padding.{first_blocks, blocks_of}
use Rattle.lsh.specs.Chains.{chain_after}
use Rattle.lsh.proofs.Figures.{Amounts}
use Rattle.lsh.proofs.Blocks.{forwards-chain, forwards-append}
use Rattle.lsh.proofs.Padding.{block_at, first_blocks-add, first_blocks-more, first_blocks-front}

module _ (z : WordSize) (t s : List ℕ) where
  -- after one block more
  pub after_more : (k : ℕ) → chain_after z t s (suc k) ≡ forward z (block_at z s k) (chain_after z t s k)
  unfolding chain_after forwards forward
  after_more k =
      ap (λ (bs : List (List ℕ)). forwards z bs t) (first_blocks-more z k s) ∙ forwards-append z (first_blocks z k s) (block_at z s k ∷ []) t

  -- after all whole blocks
  pub after-all : chain_after z t s (length s / block_bytes z) ≡ forwards z (blocks_of z s) t
  unfolding chain_after blocks_of
  after-all = refl

  pub after-chain : Amounts z → Chain z t → (k : ℕ) → Chain z (chain_after z t s k)
  unfolding chain_after
  after-chain ok chain k = forwards-chain z ok (first_blocks z k s) t chain

  -- from the chain after j blocks on
  pub after-further : (j k : ℕ) → chain_after z (chain_after z t s j) (drop (j * block_bytes z) s) k ≡ chain_after z t s (j + k)
  unfolding chain_after
  after-further j k =
      sym (ap (λ (bs : List (List ℕ)). forwards z bs t) (first_blocks-add z j k s)
      ∙ forwards-append z (first_blocks z j s) (first_blocks z k (drop (j * block_bytes z) s)) t)

  -- bytes behind the blocks change nothing
  pub after_front : (p : List ℕ) (k : ℕ) → k * block_bytes z ≤ length s → chain_after z t (s ++ p) k ≡ chain_after z t s k
  unfolding chain_after
  after_front p k le = ap (λ (bs : List (List ℕ)). forwards z bs t) (first_blocks-front z k s p le)

-- the first k blocks alone
pub after-take : (z : WordSize) → 0 < block_bytes z → (t s : List ℕ) (k : ℕ) → k * block_bytes z ≤ length s
    → chain_after z t s k ≡ forwards z (blocks_of z (take (k * block_bytes z) s)) t
after-take z some t s k le =
    let front : List ℕ = take (k * block_bytes z) s in
    let size : length front ≡ k * block_bytes z = length-take-le (k * block_bytes z) s le in
    ap (λ (u : List ℕ). chain_after z t u k) (sym (take-append-drop (k * block_bytes z) s))
    ∙ after_front z t front (drop (k * block_bytes z) s) k (le_of_eq (sym size))
    ∙ ap (chain_after z t front) (sym (ap (λ (n : ℕ). n / block_bytes z) size ∙ mul-div_cancel k some))
    ∙ after-all z t front

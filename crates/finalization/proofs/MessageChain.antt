-- The chain after all blocks of a message: its whole blocks, and then the block of what is left over and the padding.
-- Assumes nothing.
use mathlib.Core.Path.{◌≡◌, sym, ap, ◌∙◌, subst}
use mathlib.Core.List.{List, ◌∷◌, ◌++◌}
use Prim.Native.Nat.{ℕ, ◌-◌, ◌/◌, ◌%◌}
use lib.ListN.{length, replicate}
use Rattle.lsh.specs.WordSize.{WordSize, size_of, block_bytes}
use Rattle.lsh.specs.Block.{Chain, forwards}
use Rattle.lsh.specs.Opening.{opening}
use Rattle.lsh.specs.Padding.{blocks_of, rest_of}
use Rattle.lsh.proofs.Figures.{amounts, block-some}
use Rattle.lsh.proofs.Blocks.{forwards-chain, forwards-append}
use Rattle.lsh.proofs.Opening.{opening-chain}
use Rattle.lsh.proofs.Padding.{blocks-append}
use Rattle.runs.proofs.Rest.{rest, rest-is, rest-length}

module _ (w : ℕ) where
  abbrev z : WordSize
  z = size_of w

  pub opened-chain : (n : ℕ) {t : List ℕ} → t ≡ opening z n → Chain z t
  opened-chain n e = subst (Chain z) (sym e) (opening-chain w n)

  pub run-chain : (bs : List (List ℕ)) {t c : List ℕ} → Chain z t → c ≡ forwards z bs t → Chain z c
  run-chain bs {t} h e = subst (Chain z) (sym e) (forwards-chain z (amounts w) bs t h)

  -- the run over what is left after the whole blocks of m, with the padding
  module _ (m : List ℕ) {k b : ℕ} (count : k ≡ length m / block_bytes z) (size : b ≡ block_bytes z) where
    abbrev left : List ℕ
    left = rest w m count size

    pub last-run : (p : ℕ) (t : List ℕ) {c : List ℕ} → c ≡ forwards z (blocks_of z m) t
        → forwards z (blocks_of z (left ++ p ∷ replicate (block_bytes z - 1 - length left) 0)) c
        ≡ forwards z (blocks_of z (m ++ p ∷ replicate (block_bytes z - 1 - length m % block_bytes z) 0)) t
    last-run p t {c} run =
        let tail : List ℕ = p ∷ replicate (block_bytes z - 1 - length m % block_bytes z) 0 in
        ap (λ (l : ℕ). forwards z (blocks_of z (left ++ p ∷ replicate (block_bytes z - 1 - l) 0)) c) (rest-length w m count size)
        ∙ ap (λ (s : List ℕ). forwards z (blocks_of z (s ++ tail)) c) (rest-is w m count size)
        ∙ ap (forwards z (blocks_of z (rest_of z m ++ tail))) run
        ∙ sym (forwards-append z (blocks_of z m) (blocks_of z (rest_of z m ++ tail)) t)
        ∙ sym (ap (λ (bs : List (List ℕ)). forwards z bs t) (blocks-append z (block-some w) m tail))

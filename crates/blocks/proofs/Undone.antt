-- The calls on bytes: Block backward undoes Block forward, and Block forward undoes Block backward, for every w, chain and block. A refused
-- pair of calls changes nothing.
-- Assumes nothing.
use mathlib.Core.Path.{◌≡◌, refl, sym, ap, ◌∙◌}
use mathlib.Core.List.{List}
use Prim.Native.Nat.{ℕ}
use native.Mathlib.Decide.{ℕ_discrete}
use lib.ListN.{length}
use Rattle.lsh.specs.WordSize.{WordSize, size_of, chain_bytes}
use Rattle.lsh.specs.Bytes.{words_of, bytes_of}
use Rattle.lsh.specs.Block.{Chain, forward, backward}
use Rattle.lsh.specs.ByteString.{Bytes}
use Rattle.lsh.proofs.Figures.{amounts}
use Rattle.lsh.proofs.Block.{forward-chain, backward-chain, backward-forward, forward-backward}
use Rattle.lsh.proofs.Bytes.{octets, words-chain, chain-bytes, length-chain, words-of-bytes, bytes-of-words}
use Rattle.answers.proofs.Output.{refused-output}
use Rattle.blocks.specs.BlockCall.{block_answer, run_bytes, forward_bytes, backward_bytes}
use Rattle.blocks.proofs.Answers.{accepted, accepted-run}

-- a run, and one that undoes it on words
module _ (w : ℕ) (run back : WordSize → List ℕ → List ℕ → List ℕ)
    (chains : (b t : List ℕ) → Chain (size_of w) (run (size_of w) b t))
    (undoes : (b t : List ℕ) → Chain (size_of w) t → back (size_of w) b (run (size_of w) b t) ≡ t)
    (chain block : List ℕ) (bytes : Bytes chain) where
  undone : run_bytes back w (run_bytes run w chain block) block ≡ chain
  unfolding run_bytes
  undone = go (ℕ_discrete (block_answer w (length chain) (length block)) 0)
    where
      z : WordSize
      z = size_of w

      -- the chain after the run, and its bytes
      t : List ℕ
      t = run z (words_of z 32 block) (words_of z 16 chain)

      d : List ℕ
      d = bytes_of z t

      go : Dec (block_answer w (length chain) (length block) ≡ 0) → run_bytes back w (run_bytes run w chain block) block ≡ chain
      go (no refused) =
          ap (λ (c : List ℕ). run_bytes back w c block) (sym (refused-output _ _ _ chain refl refused).1)
          ∙ sym (refused-output _ _ _ chain refl refused).1
      go (yes e) =
          let long : length chain ≡ chain_bytes z = (accepted w (length chain) (length block) e).chain in
          let same : length d ≡ length chain = length-chain z (octets w) t (chains (words_of z 32 block) (words_of z 16 chain)).words ∙ sym long in
          let again : block_answer w (length d) (length block) ≡ 0 = ap (λ (n : ℕ). block_answer w n (length block)) same ∙ e in
          ap (λ (c : List ℕ). run_bytes back w c block) (sym (accepted-run run w chain block e refl).1)
          ∙ sym (accepted-run back w d block again refl).1
          ∙ ap (λ (u : List ℕ). bytes_of z (back z (words_of z 32 block) u))
          (words-of-bytes z (octets w) t (chains (words_of z 32 block) (words_of z 16 chain)))
          ∙ ap (bytes_of z) (undoes (words_of z 32 block) (words_of z 16 chain) (words-chain z (octets w) chain bytes))
          ∙ bytes-of-words z (octets w) 16 chain (long ∙ chain-bytes z (octets w)) bytes

pub backward-undoes-forward : (w : ℕ) (chain block : List ℕ) → Bytes chain → backward_bytes w (forward_bytes w chain block) block ≡ chain
unfolding forward backward
backward-undoes-forward w =
    undone w forward backward (λ b. forward-chain (size_of w) (amounts w) b _) (λ b. backward-forward (size_of w) (amounts w) b _)

pub forward-undoes-backward : (w : ℕ) (chain block : List ℕ) → Bytes chain → forward_bytes w (backward_bytes w chain block) block ≡ chain
unfolding forward backward
forward-undoes-backward w =
    undone w backward forward (λ b. backward-chain (size_of w) (amounts w) b _) (λ b. forward-backward (size_of w) (amounts w) b _)

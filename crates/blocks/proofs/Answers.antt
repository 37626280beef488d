-- What an answer says of the word size and the lengths, and the chain bytes of an accepted call.
-- Assumes nothing.
use mathlib.Core.Path.{◌≡◌, refl, sym, ap, ◌∙◌}
use mathlib.Core.Bool.{true, not}
use mathlib.Core.List.{List, [], ◌∷◌, ◌++◌, append-nil}
use Prim.Native.Nat.{ℕ}
use borrow.Author.Tests.{eqb-true, not-false}
use lib.Dec.{eqb}
use lib.ListN.{length, drop}
use lib.Seq.{drop-length}
use Rattle.lsh.specs.WordSize.{WordSize, is_word_size, size_of, chain_bytes, block_bytes}
use Rattle.lsh.specs.Bytes.{words_of, bytes_of}
use Rattle.lsh.specs.Padding.{blocks_of}
use Rattle.lsh.proofs.Tests.{and-true}
use Rattle.lsh.proofs.Figures.{block-some}
use Rattle.lsh.proofs.Padding.{one_block}
use Rattle.answers.proofs.Tests.{test, passed}
use Rattle.answers.proofs.Output.{written-output}
use Rattle.blocks.specs.BlockCall.{are_lengths, block_answer, run_bytes}

-- an accepted call: w is a word size, and the lengths are right
pub record Accepted (w c b : ℕ) : Type 0 where
  pub size : is_word_size w ≡ true
  pub chain : c ≡ chain_bytes (size_of w)
  pub block : b ≡ block_bytes (size_of w)

pub accepted : (w c b : ℕ) → block_answer w c b ≡ 0 → Accepted w c b
unfolding block_answer are_lengths
accepted w c b is =
    let p = passed (λ (k : ℕ). k) (test (not (is_word_size w)) 1 ∷ test (not (are_lengths (size_of w) c b)) 4 ∷ []) 0 refl is in
    let lengths = and-true (eqb c (chain_bytes (size_of w))) (eqb b (block_bytes (size_of w))) (not-false (are_lengths (size_of w) c b) (p.0 1)) in
    record {
      size = not-false (is_word_size w) (p.0 0);
      chain = eqb-true c (chain_bytes (size_of w)) lengths.0;
      block = eqb-true b (block_bytes (size_of w)) lengths.1;
    }

-- all bytes of the chain are replaced
pub accepted-run : (run : WordSize → List ℕ → List ℕ → List ℕ) (w : ℕ) (chain block : List ℕ) {d : List ℕ} → block_answer w (length chain) (length block) ≡ 0
    → d ≡ bytes_of (size_of w) (run (size_of w) (words_of (size_of w) 32 block) (words_of (size_of w) 16 chain))
    → (0 ≡ block_answer w (length chain) (length block)) × (d ≡ run_bytes run w chain block)
unfolding run_bytes
accepted-run run w chain block {d} is e =
    let none : drop (chain_bytes (size_of w)) chain ≡ [] = ap (λ (k : ℕ). drop k chain) (sym (accepted w (length chain) (length block) is).chain) ∙ drop-length chain in
    written-output _ _ _ chain is e (sym (ap (λ (l : List ℕ). d ++ l) none ∙ append-nil d))

-- a run over the blocks of the block's bytes is that of the one block
pub one-run : (run : WordSize → List ℕ → List ℕ → List ℕ) (runs : WordSize → List (List ℕ) → List ℕ → List ℕ) (w : ℕ) (chain block : List ℕ) {d : List ℕ}
    → ((b t : List ℕ) → runs (size_of w) (b ∷ []) t ≡ run (size_of w) b t) → block_answer w (length chain) (length block) ≡ 0
    → d ≡ bytes_of (size_of w) (runs (size_of w) (blocks_of (size_of w) block) (words_of (size_of w) 16 chain))
    → (0 ≡ block_answer w (length chain) (length block)) × (d ≡ run_bytes run w chain block)
one-run run runs w chain block alone is e =
    let z : WordSize = size_of w in
    let one = one_block z (block-some w) block (accepted w (length chain) (length block) is).block in
    accepted-run run w chain block is
    (e ∙ ap (bytes_of z) (ap (λ (bs : List (List ℕ)). runs z bs (words_of z 16 chain)) one ∙ alone (words_of z 32 block) (words_of z 16 chain)))

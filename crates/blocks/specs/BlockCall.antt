-- Block forward and Block backward of document 01 ("The record and its calls"): the answer, and the chain bytes after the call.
-- Assumes nothing.
use Rattle.std.specs.Prelude.{Bool, not, ◌&&◌, cond, List, ℕ, eqb, length}
use Rattle.lsh.specs.WordSize.{WordSize, is_word_size, size_of, chain_bytes, block_bytes}
use Rattle.lsh.specs.Bytes.{words_of, bytes_of}
use Rattle.lsh.specs.Block.{forward, backward}
use Rattle.answers.specs.Output.{written}

-- the lengths are those of a chain and of a block
unfoldable pub are_lengths : WordSize → ℕ → ℕ → Bool
are_lengths z chain block = eqb chain (chain_bytes z) && eqb block (block_bytes z)

-- by w and the lengths of chain and block: 1 if w is neither 32 nor 64, then 4 if either length is wrong, else 0
unfoldable pub block_answer : ℕ → ℕ → ℕ → ℕ
block_answer w chain block = cond (not (is_word_size w)) 1 (cond (not (are_lengths (size_of w) chain block)) 4 0)

-- the chain bytes after a run: replaced if the answer is 0, else as they came
unfoldable pub run_bytes : (WordSize → List ℕ → List ℕ → List ℕ) → ℕ → List ℕ → List ℕ → List ℕ
run_bytes run w chain block =
    written (block_answer w (length chain) (length block)) (chain_bytes (size_of w))
    (bytes_of (size_of w) (run (size_of w) (words_of (size_of w) 32 block) (words_of (size_of w) 16 chain)))
    chain

abbrev pub forward_bytes : ℕ → List ℕ → List ℕ → List ℕ
forward_bytes = run_bytes forward

abbrev pub backward_bytes : ℕ → List ℕ → List ℕ → List ℕ
backward_bytes = run_bytes backward

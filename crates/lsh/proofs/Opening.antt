-- The opening chain is a chain, and a run over a block of zero bytes.
-- Assumes nothing.
use mathlib.Core.Path.{◌≡◌, refl, sym, ap, ap₂, ◌∙◌}
use mathlib.Core.Bool.{true}
use mathlib.Core.List.{List, ◌∷◌}
use Prim.Native.Nat.{ℕ, zero, suc, ◌+◌, ◌*◌, ◌^◌, ◌≤◌, ◌<◌}
use native.Mathlib.Omega.{arith}
use lib.ListN.{length, replicate, length-replicate}
use Rattle.lsh.specs.Tabulate.{at}
use Rattle.lsh.specs.WordSize.{WordSize, lsh256, lsh512, is_word_size, size_of, word_bytes, block_bytes}
use Rattle.lsh.specs.Bytes.{word_at, words_of}
use Rattle.lsh.specs.Block.{Chain, forward, forwards}
use Rattle.lsh.specs.Opening.{opening}
use Rattle.lsh.specs.Padding.{blocks_of}
use Rattle.lsh.proofs.Figures.{amounts, by_size, bits_are, block-some}
use Rattle.lsh.proofs.Block.{forward-chain}
use Rattle.lsh.proofs.Tabulate.{tabulate-ext}
use Rattle.lsh.proofs.Padding.{one_block}

pub at-zeros : (n i : ℕ) → at (replicate n 0) i ≡ 0
at-zeros zero i = refl
at-zeros (suc n) zero = refl
at-zeros (suc n) (suc i) = at-zeros n i

zero_word : (k n a : ℕ) → word_at k (replicate n 0) a ≡ 0
unfolding word_at
zero_word zero n a = refl
zero_word (suc k) n a = let e : word_at k (replicate n 0) (a + 1) ≡ 0 = zero_word k n (a + 1) in omega (arith, at-zeros n a)

pub zero-words : (z : WordSize) (k n : ℕ) → words_of z k (replicate n 0) ≡ replicate k 0
unfolding words_of
zero-words z k n =
    tabulate-ext k _ (replicate k 0) (length-replicate k 0) (λ l h. zero_word (word_bytes z) n (l * word_bytes z) ∙ sym (at-zeros k l))

-- the chain that it is run on
abbrev pub first_chain : ℕ → ℕ → List ℕ
first_chain w n = w ∷ n ∷ replicate 14 0

below-first : (m w n : ℕ) → w < m → n < m → (l : ℕ) → at (first_chain w n) l < m
below-first m w n hw hn zero = hw
below-first m w n hw hn (suc zero) = hn
below-first m w n hw hn (suc (suc l)) = rw (at-zeros 14 l) (omega arith)

pub first-chain : (w n : ℕ) → is_word_size w ≡ true → n ≤ 8 * w → Chain (size_of w) (first_chain w n)
unfolding size_of lsh256 lsh512
first-chain w n e h =
    by_size (λ (v : ℕ). n ≤ 8 * v → Chain (size_of v) (first_chain v n))
    (λ le. record { words = refl; below = below-first (2 ^ 32) 32 n (omega arith) (omega arith) })
    (λ le. record { words = refl; below = below-first (2 ^ 64) 64 n (omega arith) (omega arith) })
    w e h

pub opening-chain : (w n : ℕ) → Chain (size_of w) (opening (size_of w) n)
unfolding opening forward
opening-chain w n = forward-chain (size_of w) (amounts w) _ _ _

pub opening-run : (w n : ℕ) (s : List ℕ) → is_word_size w ≡ true → s ≡ replicate (block_bytes (size_of w)) 0
    → forwards (size_of w) (blocks_of (size_of w) s) (first_chain w n) ≡ opening (size_of w) n
unfolding forwards forward opening
opening-run w n s e is =
    let z : WordSize = size_of w in
    let len : length s ≡ block_bytes z = ap length is ∙ length-replicate (block_bytes z) 0 in
    let words : words_of z 32 s ≡ replicate 32 0 = ap (words_of z 32) is ∙ zero-words z 32 (block_bytes z) in
    ap (λ (bs : List (List ℕ)). forwards z bs (first_chain w n)) (one_block z (block-some w) s len)
    ∙ ap₂ (λ (b : List ℕ) (v : ℕ). forward z b (first_chain v n)) words (sym (bits_are w e))

-- The bytes of the final chain.
-- Assumes nothing.
use mathlib.Core.Path.{◌≡◌, refl, sym, ap, ◌∙◌, subst}
use mathlib.Core.Bool.{true}
use mathlib.Core.List.{List, [], ◌∷◌, ◌++◌}
use Prim.Native.Nat.{ℕ, zero, suc, ◌+◌, ◌*◌, ◌/◌, ◌%◌, ◌^◌, ◌≤◌, ◌<◌}
use native.Mathlib.Nat.{mod-lt, div-lt_iff_lt-mul, zero-add, suc-add, mul-le-mul_right}
use native.Mathlib.Omega.{arith}
use lib.Arith.{lt-one}
use lib.Pow.{pow_pos}
use lib.ListN.{length, take, replicate, length-append, get_or-append}
use lib.Seq.{length-take-le, get_or-take, take-append-le}
use Rattle.lsh.specs.Tabulate.{at, tabulate}
use Rattle.lsh.specs.Word.{xor}
use Rattle.lsh.specs.WordSize.{WordSize, lsh256, lsh512, is_word_size, size_of, word_bytes, chain_bytes}
use Rattle.lsh.specs.Bytes.{byte_at, bytes_of}
use Rattle.lsh.specs.Block.{Chain}
use Rattle.lsh.specs.Hash.{final_bytes}
use Rattle.lsh.proofs.Word.{xor_lt}
use Rattle.lsh.proofs.Tabulate.{length-tabulate, at-tabulate, tabulate-ext, tabulate-cong, tabulate-all}
use Rattle.lsh.proofs.Figures.{of-both, bits_are}
use Rattle.lsh.proofs.Opening.{at-zeros}
use Rattle.lsh.specs.ByteString.{Bytes}
use Rattle.lsh.proofs.Bytes.{Octets, octets, length-chain}

xor-zeros : (w : ℕ) → xor w 0 0 ≡ 0
unfolding xor
xor-zeros zero = refl
xor-zeros (suc w) = let e : xor w 0 0 ≡ 0 = xor-zeros w in omega arith

-- the exclusive or of words of w bits in a wider word
xor-wide : (w j x y : ℕ) → x < 2 ^ w → y < 2 ^ w → xor (w + j) x y ≡ xor w x y
unfolding xor
xor-wide zero j x y hx hy = rw (lt-one hx, lt-one hy) (ap (λ (n : ℕ). xor n 0 0) (zero-add j) ∙ xor-zeros j)
xor-wide (suc w) j x y hx hy =
    ap (λ (n : ℕ). xor n x y) (suc-add w j)
    ∙ ap (λ (n : ℕ). n * 2 + (x + y) % 2) (xor-wide w j (x / 2) (y / 2) (omega arith) (omega arith))

-- the words whose bytes they are, as the exclusive or of 64-bit words

abbrev words : ℕ → List ℕ → List ℕ
words bits t = tabulate 8 (λ l. xor bits (at t l) (at t (l + 8)))

wide-words : (w : ℕ) (t : List ℕ) → Chain (size_of w) t → words 64 t ≡ words (size_of w).bits t
unfolding lsh256 lsh512
wide-words =
    of-both (λ (z : WordSize). (t : List ℕ) → Chain z t → words 64 t ≡ words z.bits t)
    (λ t c. tabulate-cong 8 _ _ (λ l h. xor-wide 32 32 (at t l) (at t (l + 8)) (c.below l) (c.below (l + 8))))
    (λ t c. refl)

-- zeros at the end change no place
pub at-append-zeros : (s : List ℕ) (k i : ℕ) → at (s ++ replicate k 0) i ≡ at s i
at-append-zeros [] k i = at-zeros k i
at-append-zeros (x ∷ s) k zero = refl
at-append-zeros (x ∷ s) k (suc i) = at-append-zeros s k i

module _ (z : WordSize) (ok : Octets z) where
  -- the bytes of words, and of more words after them
  bytes-front : (s p : List ℕ) → take (length s * word_bytes z) (bytes_of z (s ++ p)) ≡ bytes_of z s
  unfolding bytes_of
  bytes-front s p =
      let more : length s * word_bytes z ≤ length (s ++ p) * word_bytes z = mul-le-mul_right (word_bytes z) (omega (arith, length-append s p)) in
      sym (tabulate-ext (length s * word_bytes z) _ _
      (length-take-le _ _ (rw (length-tabulate (length (s ++ p) * word_bytes z)) more))
      (λ i lt.
      sym (get_or-take _ _ i 0 lt
      ∙ at-tabulate (length (s ++ p) * word_bytes z) _ i (omega arith)
      ∙ ap (λ (x : ℕ). byte_at x (i % word_bytes z)) (get_or-append s p 0 (i / word_bytes z) ((div-lt_iff_lt-mul ok.some).1 lt)))))

  module _ (t : List ℕ) where
    abbrev front : List ℕ
    front = words z.bits t

    eight : length front ≡ 8
    eight = length-tabulate 8 (λ l. xor z.bits (at t l) (at t (l + 8)))

    size : length front * word_bytes z ≡ z.bits
    size = ap (λ (n : ℕ). n * word_bytes z) eight ∙ ok.whole

    pub length-final : length (final_bytes z t) ≡ z.bits
    unfolding final_bytes bytes_of
    length-final = length-tabulate (length front * word_bytes z) (λ i. byte_at (at front (i / word_bytes z)) (i % word_bytes z)) ∙ size

    pub final-bytes : Bytes (final_bytes z t)
    unfolding final_bytes bytes_of byte_at
    final-bytes = tabulate-all (λ (n : ℕ). n < 256) (length front * word_bytes z) _ (omega arith) (λ k h. mod-lt _ (omega arith))

    -- the words and zeros after them are a chain, whose bytes begin with those of the final chain
    final-chain : Chain z (front ++ replicate 8 0)
    final-chain =
        record {
          words = length-append front (replicate 8 0) ∙ omega (arith, eight);
          below =
              λ l.
              rw (at-append-zeros front 8 l)
              (tabulate-all (λ (n : ℕ). n < 2 ^ z.bits) 8 _ (pow_pos z.bits) (λ k h. xor_lt z.bits (at t k) (at t (k + 8))) l);
        }

    final-front : (rest : List ℕ) → take z.bits (bytes_of z (front ++ replicate 8 0) ++ rest) ≡ final_bytes z t
    unfolding final_bytes chain_bytes
    final-front rest =
        let b : List ℕ = bytes_of z (front ++ replicate 8 0) in
        let long : z.bits ≤ length b = omega (arith, length-chain z ok (front ++ replicate 8 0) final-chain.words) in
        take-append-le z.bits b rest long ∙ ap (λ (n : ℕ). take n b) (sym size) ∙ bytes-front front (replicate 8 0)

-- by w, with the words as the code has them
module _ (w : ℕ) (t : List ℕ) (chain : Chain (size_of w) t) {r : List ℕ} (is : r ≡ words 64 t ++ replicate 8 0) where
  joined : r ≡ words (size_of w).bits t ++ replicate 8 0
  joined = is ∙ ap (λ (s : List ℕ). s ++ replicate 8 0) (wide-words w t chain)

  pub words-chain : Chain (size_of w) r
  words-chain = subst (Chain (size_of w)) (sym joined) (final-chain (size_of w) (octets w) t)

  pub front-is-final : is_word_size w ≡ true → {b : List ℕ} → b ≡ bytes_of (size_of w) r → (rest : List ℕ) → take w (b ++ rest) ≡ final_bytes (size_of w) t
  front-is-final word e rest =
      ap (λ (s : List ℕ). take w (s ++ rest)) (e ∙ ap (bytes_of (size_of w)) joined)
      ∙ ap (λ (n : ℕ). take n (bytes_of (size_of w) (words (size_of w).bits t ++ replicate 8 0) ++ rest)) (sym (bits_are w word))
      ∙ final-front (size_of w) (octets w) t rest

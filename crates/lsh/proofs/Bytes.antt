-- Words and their bytes: each comes back from the other, for every word size.
-- Assumes nothing.
use mathlib.Core.Path.{◌≡◌, refl, sym, ap, ap₂, ◌∙◌, subst}
use mathlib.Core.List.{List, [], ◌∷◌, ◌++◌}
use Prim.Native.Nat.{ℕ, zero, suc, ◌+◌, ◌*◌, ◌/◌, ◌%◌, ◌^◌, ◌<◌}
use native.Mathlib.Nat.{add-zero, mod-lt, div-one, div-add-mod', div-lt_iff_lt-mul, not-suc-le-zero, le_of_suc-le-suc}
use native.Mathlib.Omega.{arith}
use lib.Arith.{lt-one, digits_lt, digits_div, digits_mod}
use lib.Pow.{pow-add, shr-shr}
use lib.ListN.{length, take, drop}
use lib.Seq.{get_or-drop}
use Rattle.lsh.specs.Tabulate.{at}
use Rattle.lsh.specs.WordSize.{WordSize, lsh256, lsh512, size_of, word_bytes, chain_bytes}
use Rattle.lsh.specs.Bytes.{word_at, words_of, byte_at, bytes_of}
use Rattle.lsh.specs.ByteString.{Bytes}
use Rattle.lsh.specs.Block.{Chain}
use Rattle.lsh.proofs.Figures.{of-both}
use Rattle.lsh.proofs.Tabulate.{length-tabulate, at-tabulate, tabulate-ext}
use Rattle.lsh.proofs.Step.{tabulate-chain}

-- a word is a whole number of bytes
pub record Octets (z : WordSize) : Type 0 where
  pub some : 0 < word_bytes z
  pub whole : 8 * word_bytes z ≡ z.bits

octets256 : Octets lsh256
unfolding lsh256 word_bytes
octets256 = record { some = omega arith; whole = refl }

octets512 : Octets lsh512
unfolding lsh512 word_bytes
octets512 = record { some = omega arith; whole = refl }

pub octets : (w : ℕ) → Octets (size_of w)
octets = of-both Octets octets256 octets512

-- bytes joined and cut are bytes
pub bytes-append : (s p : List ℕ) → Bytes s → Bytes p → Bytes (s ++ p)
bytes-append [] p hs hp i = hp i
bytes-append (x ∷ xs) p hs hp zero = hs 0
bytes-append (x ∷ xs) p hs hp (suc i) = bytes-append xs p (λ j. hs (suc j)) hp i

pub bytes_take : (k : ℕ) (s : List ℕ) → Bytes s → Bytes (take k s)
bytes_take zero s h i = omega arith
bytes_take (suc k) [] h i = h i
bytes_take (suc k) (x ∷ xs) h zero = h 0
bytes_take (suc k) (x ∷ xs) h (suc i) = bytes_take k xs (λ j. h (suc j)) i

pub bytes_drop : (k : ℕ) (s : List ℕ) → Bytes s → Bytes (drop k s)
bytes_drop k s h i = rw (get_or-drop k s i 0) (h (k + i))

byte-zero : (x : ℕ) → byte_at x 0 ≡ x % 256
unfolding byte_at
byte-zero x = ap (λ (n : ℕ). n % 256) (div-one x)

byte-suc : (x i : ℕ) → byte_at x (suc i) ≡ byte_at (x / 256) i
unfolding byte_at
byte-suc x i =
    let e : 8 * suc i ≡ 8 + 8 * i = omega arith in
    ap (λ (n : ℕ). n % 256) (ap (λ (k : ℕ). x / 2 ^ k) e ∙ sym (shr-shr x 8 (8 * i)))

-- byte i of the number of k bytes is the i-th of them
pub byte_word : (k : ℕ) (s : List ℕ) (a i : ℕ) → Bytes s → i < k → byte_at (word_at k s a) i ≡ at s (a + i)
unfolding word_at
byte_word zero s a i h lt = absurd (not-suc-le-zero lt)
byte_word (suc k) s a zero h lt =
    let b : at s a < 256 = h a in
    let e : (at s a + 256 * word_at k s (a + 1)) % 256 ≡ at s a = omega arith in
    byte-zero _ ∙ e ∙ ap (at s) (sym (add-zero a))
byte_word (suc k) s a (suc i) h lt =
    let b : at s a < 256 = h a in
    let e : (at s a + 256 * word_at k s (a + 1)) / 256 ≡ word_at k s (a + 1) = omega arith in
    let f : a + 1 + i ≡ a + suc i = omega arith in
    byte-suc _ i ∙ ap (λ (n : ℕ). byte_at n i) e ∙ byte_word k s (a + 1) i h (le_of_suc-le-suc lt) ∙ ap (at s) f

-- a number of k bytes is the number of its bytes
pub word-bytes : (k : ℕ) (s : List ℕ) (a x : ℕ) → x < 2 ^ (8 * k) → ((i : ℕ) → i < k → at s (a + i) ≡ byte_at x i) → word_at k s a ≡ x
unfolding word_at
word-bytes zero s a x h e = sym (lt-one h)
word-bytes (suc k) s a x h e =
    let m : 8 * suc k ≡ 8 + 8 * k = omega arith in
    let hx : x < 256 * 2 ^ (8 * k) = subst (λ (n : ℕ). x < n) (ap (λ (n : ℕ). 2 ^ n) m ∙ pow-add 2 8 (8 * k)) h in
    let low : at s a ≡ x % 256 = ap (at s) (sym (add-zero a)) ∙ e 0 (omega arith) ∙ byte-zero x in
    let half : x / 256 < 2 ^ (8 * k) = omega arith in
    let high : word_at k s (a + 1) ≡ x / 256 =
    word-bytes k s (a + 1) (x / 256) half
    (λ i lt. let f : a + 1 + i ≡ a + suc i = omega arith in ap (at s) f ∙ e (suc i) (omega arith) ∙ byte-suc x i) in
    omega arith

-- k bytes give a number below 2 ^ (8 k)
pub word_lt : (k : ℕ) (s : List ℕ) (a : ℕ) → Bytes s → word_at k s a < 2 ^ (8 * k)
unfolding word_at
word_lt zero s a h = omega arith
word_lt (suc k) s a h =
    let b : at s a < 256 = h a in
    let r : word_at k s (a + 1) < 2 ^ (8 * k) = word_lt k s (a + 1) h in
    let m : 8 * suc k ≡ 8 + 8 * k = omega arith in
    let e : 2 ^ (8 * suc k) ≡ 256 * 2 ^ (8 * k) = ap (λ (n : ℕ). 2 ^ n) m ∙ pow-add 2 8 (8 * k) in
    rw e (omega arith)

pub length-words : (z : WordSize) (n : ℕ) (s : List ℕ) → length (words_of z n s) ≡ n
unfolding words_of
length-words z n s = length-tabulate n (λ l. word_at (word_bytes z) s (l * word_bytes z))

module _ (z : WordSize) (ok : Octets z) where
  -- the words of bytes are a chain
  pub words-chain : (s : List ℕ) → Bytes s → Chain z (words_of z 16 s)
  unfolding words_of
  words-chain s h =
      tabulate-chain z _
      (λ l lt. subst (λ (n : ℕ). word_at (word_bytes z) s (l * word_bytes z) < 2 ^ n) ok.whole (word_lt (word_bytes z) s (l * word_bytes z) h))

  -- a chain is 16 words of bytes
  pub chain-bytes : chain_bytes z ≡ 16 * word_bytes z
  unfolding chain_bytes
  chain-bytes = let whole : 8 * word_bytes z ≡ z.bits = ok.whole in omega arith

  pub length-chain : (t : List ℕ) → length t ≡ 16 → length (bytes_of z t) ≡ chain_bytes z
  unfolding bytes_of
  length-chain t e =
      length-tabulate (length t * word_bytes z) (λ i. byte_at (at t (i / word_bytes z)) (i % word_bytes z))
      ∙ ap (λ (n : ℕ). n * word_bytes z) e ∙ sym chain-bytes

  -- words back from their bytes
  pub words-of-bytes : (t : List ℕ) → Chain z t → words_of z 16 (bytes_of z t) ≡ t
  unfolding words_of bytes_of
  words-of-bytes t h =
      tabulate-ext 16 _ t h.words
      λ l lt.
      word-bytes (word_bytes z) (bytes_of z t) (l * word_bytes z) (at t l)
      (subst (λ (n : ℕ). at t l < 2 ^ n) (sym ok.whole) (h.below l))
      λ i hi.
      let inside : l * word_bytes z + i < length t * word_bytes z = rw h.words (digits_lt lt hi) in
      at-tabulate (length t * word_bytes z) (λ j. byte_at (at t (j / word_bytes z)) (j % word_bytes z)) (l * word_bytes z + i) inside
      ∙ ap₂ (λ (q r : ℕ). byte_at (at t q) r) (digits_div l hi) (digits_mod l hi)

  -- bytes back from their words
  pub bytes-of-words : (n : ℕ) (s : List ℕ) → length s ≡ n * word_bytes z → Bytes s → bytes_of z (words_of z n s) ≡ s
  unfolding words_of bytes_of
  bytes-of-words n s e h =
      let len : length (words_of z n s) ≡ n = length-words z n s in
      tabulate-ext (length (words_of z n s) * word_bytes z) _ s (e ∙ ap (λ (m : ℕ). m * word_bytes z) (sym len))
      λ i lt.
      let inside : i / word_bytes z < n = (div-lt_iff_lt-mul ok.some).1 (subst (λ (m : ℕ). i < m * word_bytes z) len lt) in
      ap (λ (x : ℕ). byte_at x (i % word_bytes z)) (at-tabulate n (λ l. word_at (word_bytes z) s (l * word_bytes z)) (i / word_bytes z) inside)
      ∙ byte_word (word_bytes z) s (i / word_bytes z * word_bytes z) (i % word_bytes z) h (mod-lt i ok.some)
      ∙ ap (at s) (div-add-mod' i (word_bytes z))

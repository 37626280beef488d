-- The bytes of a digest and of its receipt.
-- Assumes nothing.
use mathlib.Core.Path.{◌≡◌, refl, sym, ap, ◌∙◌}
use mathlib.Core.Bool.{true, cond}
use mathlib.Core.List.{List, [], ◌∷◌, ◌++◌, append_assoc}
use Prim.Native.Nat.{ℕ, ◌+◌, ◌-◌, ◌*◌, ◌/◌, ◌%◌, ◌^◌, ◌≤◌, ◌<◌}
use native.Mathlib.Nat.{div-add-mod'}
use native.Mathlib.Decide.{dec_lt}
use native.Mathlib.Omega.{arith}
use borrow.Author.Tests.{lt-ltb, le-ltb}
use lib.Dec.{ltb}
use lib.ListN.{length, take, drop, set, replicate, length-append, length-set, length-replicate, replicate-append-replicate}
use lib.Seq.{length-take-le, get_or-take, get_or-set_same, get_or-set_other, ext_get_or, take-append-le, take_at, drop_at, sets, sets-eq}
use Rattle.lsh.specs.Tabulate.{at, tabulate}
use Rattle.lsh.specs.WordSize.{is_word_size, size_of}
use Rattle.lsh.specs.Bytes.{byte_at}
use Rattle.lsh.specs.Bits.{bytes_of_bits}
use Rattle.lsh.specs.Hash.{final_bytes, digest}
use Rattle.lsh.proofs.Figures.{bits_are, word-most}
use Rattle.lsh.proofs.Tabulate.{length-tabulate, at-tabulate}
use Rattle.lsh.proofs.Bytes.{octets}
use Rattle.message.proofs.Digest.{digest-bytes}
use Rattle.limits.specs.Limits.{longest_digest}
use Rattle.lists.specs.ZeroFilled.{zero_filled}
use Rattle.lists.proofs.Zeros.{filled-length}
use Rattle.receipts.specs.Receipt.{receipt_bytes, digest_place, length_place, receipt}
use Rattle.receipts.proofs.FinalBytes.{length-final, final-bytes}

module _ (w n : ℕ) (t : List ℕ) (size : is_word_size w ≡ true) (le : n ≤ longest_digest w) where
  abbrev h : List ℕ
  h = final_bytes (size_of w) t

  abbrev byte_of : ℕ → ℕ
  byte_of i = cond (ltb i (n / 8)) (at h i) (at h i / 2 ^ (8 - n % 8) * 2 ^ (8 - n % 8))

  abbrev bytes : List ℕ
  bytes = bytes_of_bits (digest (size_of w) n t)

  bytes-are : bytes ≡ tabulate ((n + 7) / 8) byte_of
  unfolding digest
  bytes-are =
      let len : length h ≡ w = length-final (size_of w) (octets w) t ∙ bits_are w size in
      digest-bytes h n (final-bytes (size_of w) (octets w) t) (rw len le)

  pub length-bytes : length bytes ≡ (n + 7) / 8
  length-bytes = ap length bytes-are ∙ length-tabulate ((n + 7) / 8) byte_of

  at-bytes : (i : ℕ) → i < (n + 7) / 8 → at bytes i ≡ byte_of i
  at-bytes i lt = ap (λ (s : List ℕ). at s i) bytes-are ∙ at-tabulate ((n + 7) / 8) byte_of i lt

  whole-byte : (i : ℕ) → i < n / 8 → at bytes i ≡ at h i
  whole-byte i lt = at-bytes i (omega arith) ∙ rw (lt-ltb i (n / 8) lt)

  cut-byte : (i : ℕ) → n / 8 ≤ i → i < (n + 7) / 8 → at bytes i ≡ at h i - at h i % 2 ^ (8 - n % 8)
  cut-byte i ge lt =
      let cut : byte_of i ≡ at h i / 2 ^ (8 - n % 8) * 2 ^ (8 - n % 8) = rw (le-ltb i (n / 8) ge) in
      at-bytes i lt ∙ cut ∙ omega (arith, div-add-mod' (at h i) (2 ^ (8 - n % 8)))

  -- a byte string that begins with those of the final chain, with byte n / 8 cut to its first n % 8 bits
  module _ (s : List ℕ) (is : take w s ≡ h) (long : w < length s) where
    abbrev cut_bytes : List ℕ
    cut_bytes = set s (n / 8) (at s (n / 8) - at s (n / 8) % 2 ^ (8 - n % 8))

    from_front : (i : ℕ) → i < w → at s i ≡ at h i
    from_front i lt = sym (get_or-take w s i 0 lt) ∙ ap (λ (l : List ℕ). at l i) is

    pub cut-front : take ((n + 7) / 8) cut_bytes ≡ bytes
    cut-front =
        ext_get_or 0 _ bytes (taken ∙ sym length-bytes)
        (λ i lt. let lt' : i < (n + 7) / 8 = rw taken at lt in get_or-take ((n + 7) / 8) cut_bytes i 0 lt' ∙ go i lt' (dec_lt i (n / 8)))
      where
        taken : length (take ((n + 7) / 8) cut_bytes) ≡ (n + 7) / 8
        taken = length-take-le ((n + 7) / 8) cut_bytes (rw (length-set s (n / 8)) (omega arith))

        go : (i : ℕ) → i < (n + 7) / 8 → Dec (i < n / 8) → at cut_bytes i ≡ at bytes i
        go i lt (yes before) = get_or-set_other s (n / 8) i _ 0 (λ e. omega arith) ∙ from_front i (omega arith) ∙ sym (whole-byte i before)
        go i lt (no from) =
            let e : i ≡ n / 8 = omega arith in
            ap (at cut_bytes) e ∙ get_or-set_same s (n / 8) _ 0 (omega arith)
            ∙ ap (λ (x : ℕ). x - x % 2 ^ (8 - n % 8)) (ap (at s) (sym e) ∙ from_front i (omega arith))
            ∙ sym (cut-byte i (omega arith) lt)

-- xs stored over q
sets_over : (p q r xs : List ℕ) (i : ℕ) → length p ≡ i → length xs ≡ length q → sets (p ++ q ++ r) i xs ≡ p ++ xs ++ r
sets_over p q r xs i place size =
    let end : length (p ++ q) ≡ i + length xs = length-append p q ∙ omega arith in
    let room : i + length xs ≤ length (p ++ q ++ r) = omega (arith, length-append (p ++ q) r) in
    sets-eq xs (p ++ q ++ r) i room
    ∙ rw (take-append-le i (p ++ q) r (omega arith), take_at p q i place, drop_at (p ++ q) r (i + length xs) end)

-- zeros, and then the parts of a receipt in their places
module _ (w a b : ℕ) (d l m : List ℕ) (short : length d ≤ length_place - digest_place) (eight : length l ≡ 8) where
  abbrev front : List ℕ
  front = w ∷ 0 ∷ a ∷ b ∷ []

  abbrev left : ℕ
  left = length_place - length (front ++ d)

  zeros-apart : replicate (receipt_bytes - digest_place) 0 ++ m ≡ replicate (length d) 0 ++ (replicate left 0 ++ replicate 8 0 ++ m)
  unfolding receipt_bytes
  zeros-apart =
      let sum : receipt_bytes - digest_place ≡ length d + (left + 8) = omega arith in
      ap (λ (k : ℕ). replicate k 0 ++ m) sum
      ∙ ap (λ (s : List ℕ). s ++ m)
      (sym (replicate-append-replicate {A = ℕ} (length d) (left + 8) 0)
      ∙ ap (λ (s : List ℕ). replicate (length d) 0 ++ s) (sym (replicate-append-replicate {A = ℕ} left 8 0)))
      ∙ simp append_assoc

  put-together : sets (sets (set (set (set (replicate receipt_bytes 0 ++ m) 0 w) 2 a) 3 b) digest_place d) length_place l
      ≡ zero_filled length_place (front ++ d) ++ l ++ m
  unfolding receipt_bytes
  put-together =
      let rest : List ℕ = replicate left 0 ++ replicate 8 0 ++ m in
      let long : length (zero_filled length_place (front ++ d)) ≡ length_place = filled-length length_place (front ++ d) (omega arith) in
      ap (λ (s : List ℕ). sets (sets (front ++ s) digest_place d) length_place l) zeros-apart
      ∙ ap (λ (s : List ℕ). sets s length_place l)
      (sets_over front (replicate (length d) 0) rest d digest_place refl (sym (length-replicate {A = ℕ} (length d) 0)) ∙ simp append_assoc)
      ∙ sets_over (front ++ d ++ replicate left 0) (replicate 8 0) m l length_place long eight

-- the output after each step of the code
pub written : (w n : ℕ) (t : List ℕ) → is_word_size w ≡ true → n ≤ longest_digest w → (bits : ℕ) (m : List ℕ) {m₁ m₂ m₃ d : List ℕ}
    → m₁ ≡ replicate receipt_bytes 0 ++ drop receipt_bytes m → d ≡ bytes_of_bits (digest (size_of w) n t)
    → m₂ ≡ sets (set (set (set m₁ 0 w) 2 (n % 256)) 3 (n / 256)) digest_place d → m₃ ≡ sets m₂ length_place (tabulate 8 (byte_at bits))
    → m₃ ≡ receipt w n (digest (size_of w) n t) bits ++ drop receipt_bytes m
unfolding receipt
written w n t size le bits m {m₁} cleared digest-is first last =
    let short : length (bytes_of_bits (digest (size_of w) n t)) ≤ length_place - digest_place = omega (arith, length-bytes w n t size le, word-most w size) in
    last
    ∙ ap (λ (s : List ℕ). sets s length_place (tabulate 8 (byte_at bits)))
    (first
    ∙ ap (λ (s : List ℕ). sets (set (set (set m₁ 0 w) 2 (n % 256)) 3 (n / 256)) digest_place s) digest-is
    ∙ ap (λ (s : List ℕ). sets (set (set (set s 0 w) 2 (n % 256)) 3 (n / 256)) digest_place (bytes_of_bits (digest (size_of w) n t))) cleared)
    ∙ put-together w (n % 256) (n / 256) (bytes_of_bits (digest (size_of w) n t)) (tabulate 8 (byte_at bits)) (drop receipt_bytes m) short (length-tabulate 8 (byte_at bits))

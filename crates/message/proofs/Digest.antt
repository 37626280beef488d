-- The bytes that hold the first n bits of a byte string: whole bytes, and a last one whose other bits are 0.
-- Assumes nothing.
use mathlib.Core.Path.{◌≡◌, refl, sym, ap, ◌∙◌}
use mathlib.Core.Bool.{Bool, true, false, not, cond}
use mathlib.Core.List.{List, [], ◌∷◌, ◌++◌, append-nil}
use Prim.Native.Nat.{ℕ, zero, suc, ◌+◌, ◌-◌, ◌*◌, ◌/◌, ◌%◌, ◌^◌, ◌≤◌, ◌<◌}
use native.Mathlib.Nat.{zero-sub, sub-zero, suc-sub-suc}
use native.Mathlib.Omega.{arith}
use lib.Pow.{split}
use lib.Dec.{T, ltb, ltb→lt, nltb→le}
use lib.ListN.{length, take, drop}
use lib.Seq.{length-take-le, take-nil, take-append-le, take-append-add, drop-nil, drop-cons}
use Rattle.lsh.specs.Tabulate.{at, tabulate}
use Rattle.lsh.specs.Bits.{bits_of_byte, bits_of, number_of, bytes_of_bits}
use Rattle.lsh.proofs.Tabulate.{tabulate-cong}
use Rattle.lsh.specs.ByteString.{Bytes}
use Rattle.message.proofs.Bits.{drop-byte, length-bits, number-byte, number-whole, number-zeros}

drop-take : (k n : ℕ) (m : List Bool) → drop k (take n m) ≡ take (n - k) (drop k m)
drop-take zero n m = ap (λ (i : ℕ). take i m) (sym (sub-zero n))
drop-take (suc k) zero m = ap (λ (i : ℕ). take i (drop (suc k) m)) (sym (zero-sub (suc k)))
drop-take (suc k) (suc n) [] = sym (take-nil (suc n - suc k))
drop-take (suc k) (suc n) (b ∷ m) = drop-take k n m ∙ ap (λ (i : ℕ). take i (drop k m)) (sym (suc-sub-suc n k))

drop_bits : (i : ℕ) (h : List ℕ) → drop (8 * i) (bits_of h) ≡ bits_of (drop i h)
unfolding bits_of bits_of_byte
drop_bits zero h = refl
drop_bits (suc i) [] = drop-nil (8 * suc i)
drop_bits (suc i) (x ∷ h) = drop-byte i (bits_of (x ∷ h)) ∙ drop_bits i h

-- byte i of the first n bits of h
abbrev byte_of : List ℕ → ℕ → ℕ → ℕ
byte_of h n i = number_of 8 (drop (8 * i) (take n (bits_of h)))

-- byte i of h, cut to its first n % 8 bits
abbrev cut : List ℕ → ℕ → ℕ → ℕ
cut h n i = at h i / 2 ^ (8 - n % 8) * 2 ^ (8 - n % 8)

module _ (h : List ℕ) (n : ℕ) (bytes : Bytes h) (le : n ≤ 8 * length h) where
  -- the bits from byte i on
  bits-from : (i : ℕ) → i < length h → drop (8 * i) (take n (bits_of h)) ≡ take (n - 8 * i) (bits_of_byte (at h i) ++ bits_of (drop (suc i) h))
  unfolding bits_of
  bits-from i lt = drop-take (8 * i) n (bits_of h) ∙ ap (take (n - 8 * i)) (drop_bits i h ∙ ap bits_of (drop-cons h i 0 lt))

  -- a byte before the cut, and the one that is cut

  whole : (i : ℕ) → i < n / 8 → byte_of h n i ≡ at h i
  unfolding bits_of_byte
  whole i lt =
      let k : ℕ = n - 8 * i - 8 in
      let e : n - 8 * i ≡ 8 + k = omega arith in
      let b : List Bool = bits_of_byte (at h i) in
      let r : List Bool = bits_of (drop (suc i) h) in
      ap (number_of 8) (bits-from i (omega arith) ∙ ap (λ (j : ℕ). take j (b ++ r)) e ∙ take-append-add b r k)
      ∙ number-whole (at h i) (take k r) (bytes i)

  part : (i : ℕ) → n / 8 ≤ i → i < (n + 7) / 8 → byte_of h n i ≡ cut h n i
  unfolding bits_of_byte
  part i ge lt =
      let e : n - 8 * i ≡ n % 8 = omega arith in
      let b : List Bool = bits_of_byte (at h i) in
      let r : List Bool = bits_of (drop (suc i) h) in
      let front : drop (8 * i) (take n (bits_of h)) ≡ take (n % 8) b ++ [] =
      bits-from i (omega arith) ∙ ap (λ (j : ℕ). take j (b ++ r)) e ∙ take-append-le (n % 8) b r (omega arith) ∙ sym (append-nil _) in
      let number : number_of 8 (take (n % 8) b ++ []) ≡ cut h n i =
      omega (arith, number-byte (at h i) (n % 8) [] (bytes i) (omega arith), number-zeros (8 - n % 8) 0, split (at h i) (8 - n % 8)) in
      ap (number_of 8) front ∙ number

  pub digest-bytes : bytes_of_bits (take n (bits_of h))
      ≡ tabulate ((n + 7) / 8) (λ i. cond (ltb i (n / 8)) (at h i) (at h i / 2 ^ (8 - n % 8) * 2 ^ (8 - n % 8)))
  unfolding bytes_of_bits
  digest-bytes =
      ap (λ (k : ℕ). tabulate ((k + 7) / 8) (byte_of h n)) (length-take-le n (bits_of h) (rw (length-bits h) le))
      ∙ tabulate-cong ((n + 7) / 8) _ _ (λ i lt. go i lt (ltb i (n / 8)) (ltb→lt i (n / 8)) (nltb→le i (n / 8)))
    where
      go : (i : ℕ) → i < (n + 7) / 8 → (b : Bool) → (T b → i < n / 8) → (T (not b) → n / 8 ≤ i)
          → byte_of h n i ≡ cond b (at h i) (cut h n i)
      go i lt true below above = whole i (below tt)
      go i lt false below above = part i (above tt) lt

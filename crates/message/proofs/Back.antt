-- Bits back from the bytes that hold them, for a bit string of any length.
-- Assumes nothing.
use mathlib.Core.Path.{◌≡◌, refl, sym, ap, ap₂, ◌∙◌}
use mathlib.Core.Bool.{Bool, true, false}
use mathlib.Core.List.{List, [], ◌∷◌, ◌++◌}
use Prim.Native.Nat.{ℕ, zero, suc, ◌+◌, ◌-◌, ◌*◌, ◌/◌, ◌%◌, ◌^◌, ◌≤◌, ◌<◌}
use native.Mathlib.Nat.{sub-zero, zero-sub, suc-sub-suc, le_of_eq, one-mul, div-eq_of_lt, mul-add-div_right}
use native.Mathlib.Omega.{arith}
use lib.Pow.{pow_pos, pow-add, high}
use lib.Dec.{eqb}
use lib.ListN.{length, take, drop, length-drop, take-append-drop}
use lib.Seq.{take-nil, take_all}
use Rattle.lsh.specs.Bits.{bit, bits_of_byte, bits_of, number_of, bytes_of_bits}
use Rattle.lsh.specs.ByteString.{Bytes}
use Rattle.lsh.proofs.Tabulate.{length-tabulate, tabulate-all}
use Rattle.message.proofs.Bits.{low_bits, length-bits, bytes-step}

-- the number of k bits is below 2 ^ k
pub number_lt : (k : ℕ) (m : List Bool) → number_of k m < 2 ^ k
unfolding number_of
number_lt zero m = omega arith
number_lt (suc k) [] = pow_pos (suc k)
number_lt (suc k) (true ∷ m) = omega (arith, number_lt k m)
number_lt (suc k) (false ∷ m) = omega (arith, number_lt k m)

-- a bit above place j does not change bit j
bit_below : (k j y : ℕ) → j < k → bit (2 ^ k + y) j ≡ bit y j
unfolding bit
bit_below k j y less =
    let d : ℕ = k - suc j in
    let e : k ≡ suc d + j = omega arith in
    let split : 2 ^ k ≡ 2 ^ suc d * 2 ^ j = ap (λ (i : ℕ). 2 ^ i) e ∙ pow-add 2 (suc d) j in
    let div : (2 ^ k + y) / 2 ^ j ≡ 2 ^ suc d + y / 2 ^ j =
    ap (λ (x : ℕ). (x + y) / 2 ^ j) split ∙ mul-add-div_right (pow_pos j) (2 ^ suc d) y in
    let even : (2 ^ suc d + y / 2 ^ j) % 2 ≡ y / 2 ^ j % 2 = omega arith in
    ap (λ (x : ℕ). eqb x 1) (ap (λ (x : ℕ). x % 2) div ∙ even)

bits_below : (k j y : ℕ) → j ≤ k → low_bits (2 ^ k + y) j ≡ low_bits y j
unfolding low_bits
bits_below k zero y le = refl
bits_below k (suc j) y le = ap₂ (λ (b : Bool) (m : List Bool). b ∷ m) (bit_below k j y le) (bits_below k j y (omega arith))

-- the highest bit
bit-set : (k y : ℕ) → y < 2 ^ k → bit (2 ^ k + y) k ≡ true
unfolding bit
bit-set k y less =
    let one : (2 ^ k + y) / 2 ^ k ≡ 1 = ap (λ (x : ℕ). (x + y) / 2 ^ k) (sym (one-mul (2 ^ k))) ∙ high 1 k less in
    ap (λ (x : ℕ). eqb (x % 2) 1) one

bit-unset : (k y : ℕ) → y < 2 ^ k → bit y k ≡ false
unfolding bit
bit-unset k y less = ap (λ (x : ℕ). eqb (x % 2) 1) (div-eq_of_lt less)

-- the first k bits back from their number, as many as there are
bits_of_number : (k : ℕ) (m : List Bool) → take (length m) (low_bits (number_of k m) k) ≡ take k m
unfolding number_of low_bits
bits_of_number zero m = take-nil (length m)
bits_of_number (suc k) [] = refl
bits_of_number (suc k) (true ∷ m) =
    let y : ℕ = number_of k m in
    ap₂ (λ (b : Bool) (l : List Bool). b ∷ l) (bit-set k y (number_lt k m))
    (ap (take (length m)) (bits_below k k y (omega arith)) ∙ bits_of_number k m)
bits_of_number (suc k) (false ∷ m) =
    ap₂ (λ (b : Bool) (l : List Bool). b ∷ l) (bit-unset k (number_of k m) (number_lt k m)) (bits_of_number k m)

-- the first bits of a byte back from it
pub bits-of-byte : (m : List Bool) → take (length m) (bits_of_byte (number_of 8 m)) ≡ take 8 m
unfolding low_bits bits_of_byte
bits-of-byte m = bits_of_number 8 m

take-both : (n : ℕ) (x y : List Bool) → take n (x ++ y) ≡ take n x ++ take (n - length x) y
take-both n [] y = ap₂ (λ (k : ℕ) (l : List Bool). l ++ take k y) (sym (sub-zero n)) (sym (take-nil n))
take-both zero (b ∷ x) y = ap (λ (k : ℕ). take k y) (sym (zero-sub (suc (length x))))
take-both (suc n) (b ∷ x) y =
    ap (λ (l : List Bool). b ∷ l) (take-both n x y ∙ ap (λ (k : ℕ). take n x ++ take k y) (sym (suc-sub-suc n (length x))))

-- the first byte, and the rest
byte-back : (m : List Bool) → take (length (drop 8 m)) (bits_of (bytes_of_bits (drop 8 m))) ≡ drop 8 m → take (length m) (bits_of (bytes_of_bits m)) ≡ m
unfolding bits_of bits_of_byte
byte-back [] rest = refl
byte-back (b ∷ l) rest =
    let m : List Bool = b ∷ l in
    let y : List Bool = bits_of (bytes_of_bits (drop 8 m)) in
    ap (λ (s : List ℕ). take (length m) (bits_of s)) (bytes-step m (omega arith))
    ∙ take-both (length m) (bits_of_byte (number_of 8 m)) y
    ∙ ap₂ (λ (p q : List Bool). p ++ q) (bits-of-byte m) (ap (λ (n : ℕ). take n y) (sym (length-drop 8 m)) ∙ rest)
    ∙ take-append-drop 8 m

-- all bits back from their bytes, k of them at most
some_back : (k : ℕ) (m : List Bool) → length m ≤ 8 * k → take (length m) (bits_of (bytes_of_bits m)) ≡ m
some_back zero [] le = refl
some_back zero (b ∷ m) le = absurd (omega arith)
some_back (suc k) m le = byte-back m (some_back k (drop 8 m) (omega (arith, length-drop 8 m)))

pub bits_back : (m : List Bool) → take (length m) (bits_of (bytes_of_bits m)) ≡ m
bits_back m = some_back (length m) m (omega arith)

-- whole bytes
pub length-bytes : (m : List Bool) → length (bytes_of_bits m) ≡ (length m + 7) / 8
unfolding bytes_of_bits
length-bytes m = length-tabulate ((length m + 7) / 8) (λ l. number_of 8 (drop (8 * l) m))

pub whole_back : (m : List Bool) → length m % 8 ≡ 0 → bits_of (bytes_of_bits m) ≡ m
whole_back m whole =
    let size : length (bits_of (bytes_of_bits m)) ≡ length m = length-bits (bytes_of_bits m) ∙ omega (arith, length-bytes m) in
    sym (take_all (length m) (bits_of (bytes_of_bits m)) (le_of_eq size)) ∙ bits_back m

-- and these are bytes
pub bits-bytes : (m : List Bool) → Bytes (bytes_of_bits m)
unfolding bytes_of_bits
bits-bytes m =
    tabulate-all (λ (x : ℕ). x < 256) ((length m + 7) / 8) (λ l. number_of 8 (drop (8 * l) m)) (omega arith) (λ l lt. number_lt 8 (drop (8 * l) m))

-- Bit strings and the bytes that hold them: whole bytes, and a last byte of which only the first e bits are there.
-- Assumes nothing.
use mathlib.Core.Path.{◌≡◌, refl, sym, ap, ap₂, ◌∙◌}
use mathlib.Core.Bool.{Bool, true, false}
use mathlib.Core.List.{List, [], ◌∷◌, ◌++◌}
use Prim.Native.Nat.{ℕ, zero, suc, ◌+◌, ◌-◌, ◌*◌, ◌/◌, ◌%◌, ◌^◌, ◌≤◌, ◌<◌}
use native.Mathlib.Nat.{add_comm, suc-add, sub-zero, zero-sub, suc-sub-suc, zero-mod, mod-eq_of_lt, mul-add-mod_self_right}
use native.Mathlib.Omega.{arith}
use lib.Pow.{pow-add, mod-pow-add}
use lib.Dec.{eqb}
use lib.ListN.{length, take, drop, replicate, length-append, length-replicate, get_or-replicate, length-drop}
use lib.Seq.{length-take-le, drop-append-add, drop-drop}
use Rattle.lsh.specs.Tabulate.{at}
use Rattle.lsh.specs.Bits.{bit, bits_of_byte, bits_of, number_of, bytes_of_bits}
use Rattle.lsh.proofs.Tabulate.{length-tabulate, at-tabulate, tabulate-ext}
use Rattle.lsh.specs.ByteString.{Bytes}

-- the k low bits of x, the highest first
unfoldable pub low_bits : ℕ → ℕ → List Bool
low_bits x zero = []
low_bits x (suc k) = bit x k ∷ low_bits x k

-- a bit at the front counts 2 ^ k
number_bit : (x k : ℕ) (m : List Bool) → number_of (suc k) (bit x k ∷ m) ≡ x / 2 ^ k % 2 * 2 ^ k + number_of k m
unfolding bit number_of
number_bit x k m = go (x / 2 ^ k % 2) (omega arith)
  where
    go : (c : ℕ) → c < 2 → number_of (suc k) (eqb c 1 ∷ m) ≡ c * 2 ^ k + number_of k m
    go zero h = omega arith
    go (suc zero) h = omega arith
    go (suc (suc c)) h = absurd (omega arith)

-- the first e of the n low bits of x, and then r in the place of the k that are left. Both sides add what r took the place of,
-- so that nothing is divided
number-front : (x e k n : ℕ) (r : List Bool) → n ≡ e + k
    → number_of n (take e (low_bits x n) ++ r) + x % 2 ^ k ≡ x % 2 ^ n + number_of k r
unfolding low_bits
number-front x zero k n r h =
    let same : n ≡ k = omega arith in
    rw same (add_comm _ _)
number-front x (suc e) k zero r h = absurd (omega arith)
number-front x (suc e) k (suc n) r h =
    let rest : number_of n (take e (low_bits x n) ++ r) + x % 2 ^ k ≡ x % 2 ^ n + number_of k r = number-front x e k n r (omega arith) in
    let one : 1 + n ≡ suc n = omega arith in
    let first : x % 2 ^ suc n ≡ x / 2 ^ n % 2 * 2 ^ n + x % 2 ^ n = rw one at (mod-pow-add x 1 n) in
    omega (arith, number_bit x n (take e (low_bits x n) ++ r))

-- the first e bits of a byte, and then r in the place of its other bits
pub number-byte : (x e : ℕ) (r : List Bool) → x < 256 → e ≤ 8
    → number_of 8 (take e (bits_of_byte x) ++ r) + x % 2 ^ (8 - e) ≡ x + number_of (8 - e) r
unfolding low_bits bits_of_byte
number-byte x e r hx he =
    number-front x e (8 - e) 8 r (omega arith) ∙ ap (λ (n : ℕ). n + number_of (8 - e) r) (mod-eq_of_lt hx)

-- all of its bits
pub number-whole : (x : ℕ) (r : List Bool) → x < 256 → number_of 8 (bits_of_byte x ++ r) ≡ x
unfolding bits_of_byte number_of
number-whole x r h = omega (arith, number-byte x 8 r h (omega arith))

pub drop-byte : (l : ℕ) (m : List Bool) → drop (8 * suc l) m ≡ drop (8 * l) (drop 8 m)
drop-byte l m = let e : 8 * suc l ≡ 8 + 8 * l = omega arith in ap (λ (n : ℕ). drop n m) e ∙ sym (drop-drop (8 * l) 8 m)

-- the first byte, and the rest
pub bytes-step : (m : List Bool) → 0 < length m → bytes_of_bits m ≡ number_of 8 m ∷ bytes_of_bits (drop 8 m)
unfolding bytes_of_bits
bytes-step m h =
    tabulate-ext ((length m + 7) / 8) (λ l. number_of 8 (drop (8 * l) m)) (number_of 8 m ∷ bytes_of_bits (drop 8 m))
    (ap suc (length-tabulate _ _) ∙ rw (length-drop 8 m) (omega arith)) go
  where
    go : (l : ℕ) → l < (length m + 7) / 8 → number_of 8 (drop (8 * l) m) ≡ at (number_of 8 m ∷ bytes_of_bits (drop 8 m)) l
    go zero lt = refl
    go (suc l) lt =
        let inside : l < (length (drop 8 m) + 7) / 8 = rw (length-drop 8 m) (omega arith) in
        ap (number_of 8) (drop-byte l m) ∙ sym (at-tabulate _ _ l inside)

-- whole bytes
pub bytes-of-bits : (s : List ℕ) (r : List Bool) → Bytes s → bytes_of_bits (bits_of s ++ r) ≡ s ++ bytes_of_bits r
unfolding bits_of bits_of_byte
bytes-of-bits [] r h = refl
bytes-of-bits (x ∷ s) r h =
    bytes-step (bits_of_byte x ++ bits_of s ++ r) (omega arith)
    ∙ ap₂ (λ (a : ℕ) (t : List ℕ). a ∷ t) (number-whole x (bits_of s ++ r) (h 0)) (bytes-of-bits s r (λ i. h (suc i)))

pub length-bits : (s : List ℕ) → length (bits_of s) ≡ 8 * length s
unfolding bits_of bits_of_byte
length-bits [] = refl
length-bits (x ∷ s) = let e : length (bits_of s) ≡ 8 * length s = length-bits s in omega arith

-- zeros

drop-zeros : (l k : ℕ) → drop l (replicate k false) ≡ replicate (k - l) false
drop-zeros zero k = ap (λ (n : ℕ). replicate n false) (sym (sub-zero k))
drop-zeros (suc l) zero = ap (λ (n : ℕ). replicate n false) (sym (zero-sub (suc l)))
drop-zeros (suc l) (suc k) = drop-zeros l k ∙ ap (λ (n : ℕ). replicate n false) (sym (suc-sub-suc k l))

pub number-zeros : (n k : ℕ) → number_of n (replicate k false) ≡ 0
unfolding number_of
number-zeros zero k = refl
number-zeros (suc n) zero = refl
number-zeros (suc n) (suc k) = number-zeros n k

-- bits that are not there count as 0, so the low places of the number are 0
pub low-zero : (m : List Bool) (k : ℕ) → number_of (length m + k) m % 2 ^ k ≡ 0
unfolding number_of
low-zero [] k = ap (λ (x : ℕ). x % 2 ^ k) (number-zeros (0 + k) 0) ∙ zero-mod (2 ^ k)
low-zero (true ∷ m) k =
    ap (λ (j : ℕ). number_of j (true ∷ m) % 2 ^ k) (suc-add (length m) k)
    ∙ ap (λ (x : ℕ). (x + number_of (length m + k) m) % 2 ^ k) (pow-add 2 (length m) k)
    ∙ mul-add-mod_self_right (2 ^ length m) (2 ^ k) (number_of (length m + k) m)
    ∙ low-zero m k
low-zero (false ∷ m) k = ap (λ (j : ℕ). number_of j (false ∷ m) % 2 ^ k) (suc-add (length m) k) ∙ low-zero m k

bytes-zeros : (j : ℕ) → bytes_of_bits (replicate (8 * j) false) ≡ replicate j 0
unfolding bytes_of_bits
bytes-zeros j =
    tabulate-ext _ (λ l. number_of 8 (drop (8 * l) (replicate (8 * j) false))) (replicate j 0)
    (length-replicate j 0 ∙ rw (length-replicate (8 * j) false) (omega arith))
    λ l lt.
    let inside : l < j = omega (arith, length-replicate (8 * j) false) in
    ap (number_of 8) (drop-zeros (8 * l) (8 * j)) ∙ number-zeros 8 (8 * j - 8 * l) ∙ sym (get_or-replicate j l 0 0 inside)

-- the first e bits of a byte whose other bits are 0, the bit 1, zeros to the end of the byte, and j bytes of zeros
pub bytes-last : (last e j : ℕ) → last < 256 → e ≤ 7 → last % 2 ^ (8 - e) ≡ 0
    → bytes_of_bits (take e (bits_of_byte last) ++ true ∷ replicate (7 - e + 8 * j) false) ≡ (last + 2 ^ (7 - e)) ∷ replicate j 0
unfolding number_of bits_of_byte
bytes-last last e j h he low =
    let front : List Bool = take e (bits_of_byte last) in
    let zeros : List Bool = replicate (7 - e + 8 * j) false in
    let size : length front ≡ e = length-take-le e (bits_of_byte last) (omega arith) in
    let left : 8 - e ≡ suc (7 - e) = omega arith in
    let one : number_of (8 - e) (true ∷ zeros) ≡ 2 ^ (7 - e) = rw left (omega (arith, number-zeros (7 - e) (7 - e + 8 * j))) in
    let number : number_of 8 (front ++ true ∷ zeros) ≡ last + 2 ^ (7 - e) = omega (arith, number-byte last e (true ∷ zeros) h (omega arith)) in
    let after : 7 - e + 8 * j - (7 - e) ≡ 8 * j = omega arith in
    let split : 8 ≡ length front + suc (7 - e) = omega arith in
    let rest : drop 8 (front ++ true ∷ zeros) ≡ replicate (8 * j) false =
    ap (λ (n : ℕ). drop n (front ++ true ∷ zeros)) split ∙ drop-append-add front (true ∷ zeros) (suc (7 - e))
    ∙ drop-zeros (7 - e) (7 - e + 8 * j) ∙ ap (λ (n : ℕ). replicate n false) after in
    bytes-step (front ++ true ∷ zeros) (rw (length-append front (true ∷ zeros)) (omega arith))
    ∙ ap₂ (λ (a : ℕ) (t : List ℕ). a ∷ t) number (ap bytes_of_bits rest ∙ bytes-zeros j)

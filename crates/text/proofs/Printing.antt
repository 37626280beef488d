-- Bytes as they are printed.
-- Assumes nothing.
use mathlib.Core.Path.{◌≡◌, subst}
use mathlib.Core.List.{List}
use Prim.Native.Nat.{ℕ, ◌+◌, ◌*◌, ◌/◌, ◌%◌, ◌≤◌, ◌<◌}
use native.Mathlib.Omega.{arith}
use lib.ListN.{length, set}
use Rattle.lsh.specs.Tabulate.{at}
use Rattle.lsh.proofs.Tabulate.{length-tabulate}
use Rattle.loops.proofs.Places.{Placed, placed-more}
use Rattle.text.specs.Printed.{hex_digit, digit_at, digits_of}

pub length_digits : (s : List ℕ) → length (digits_of s) ≡ 2 * length s
unfolding digits_of
length_digits s = length-tabulate (2 * length s) (digit_at s)

-- the two digits of a byte

pub high-digit : (s : List ℕ) (i : ℕ) → hex_digit (at s i / 16) ≡ digit_at s (2 * i)
unfolding digit_at
high-digit s i =
    let even : 2 * i % 2 ≡ 0 = omega arith in
    let half : 2 * i / 2 ≡ i = omega arith in
    rw (even, half)

pub low-digit : (s : List ℕ) (i : ℕ) → hex_digit (at s i % 16) ≡ digit_at s (2 * i + 1)
unfolding digit_at
low-digit s i =
    let odd : (2 * i + 1) % 2 ≡ 1 = omega arith in
    let half : (2 * i + 1) / 2 ≡ i = omega arith in
    rw (odd, half)

-- both stored
pub two-more : {n : ℕ} {f : ℕ → ℕ} {m₀ m : List ℕ} (from i v w : ℕ) → Placed n (λ j. from + j) f m₀ m (2 * i) → 2 * i + 1 < n → from + n ≤ length m₀
    → v ≡ f (2 * i) → w ≡ f (2 * i + 1) → Placed n (λ j. from + j) f m₀ (set (set m (from + 2 * i) v) (from + 2 * i + 1) w) (2 * (i + 1))
two-more {n} {f} {m₀} {m} from i v w h lt room high low =
    let one = placed-more v h (omega arith) (omega arith) (λ k less same. omega arith) high in
    let two = placed-more w one lt (omega arith) (λ k less same. omega arith) low in
    let place : from + (2 * i + 1) ≡ from + 2 * i + 1 = omega arith in
    let next : 2 * i + 1 + 1 ≡ 2 * (i + 1) = omega arith in
    subst (Placed n (λ j. from + j) f m₀ (set (set m (from + 2 * i) v) (from + 2 * i + 1) w)) next
    (subst (λ (a : ℕ). Placed n (λ j. from + j) f m₀ (set (set m (from + 2 * i) v) a w) (2 * i + 1 + 1)) place two)

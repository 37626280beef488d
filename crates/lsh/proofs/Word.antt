-- The laws of the operations on words, for every word size w.
-- Assumes nothing.
use mathlib.Core.Path.{◌≡◌, sym, ap, ap₂, ◌∙◌}
use Prim.Native.Nat.{ℕ, zero, suc, ◌+◌, ◌-◌, ◌*◌, ◌/◌, ◌%◌, ◌^◌, ◌≤◌, ◌<◌}
use native.Mathlib.Nat.{mod-lt, mod-eq_of_lt, mod-add-mod, add-mod_right, div-add-mod', pow-suc}
use native.Mathlib.Omega.{arith}
use lib.Arith.{digits_lt, digits_div, lt-one}
use lib.Pow.{pow_pos, pow-add, low, high, split, shr_lt}
use Rattle.lsh.specs.Word.{add, subtract, turn, rotate_left, rotate_right, xor}

-- sums and differences

pub add-lt : (w x y : ℕ) → add w x y < 2 ^ w
unfolding add
add-lt w x y = mod-lt (x + y) (pow_pos w)

pub subtract-lt : (w x y : ℕ) → subtract w x y < 2 ^ w
unfolding subtract
subtract-lt w x y = mod-lt (x + (2 ^ w - y)) (pow_pos w)

back : (x m s : ℕ) → x < m → s ≡ x + m → s % m ≡ x
back x m s h e = ap (λ (n : ℕ). n % m) e ∙ add-mod_right x m ∙ mod-eq_of_lt h

pub sub-add : (w x y : ℕ) → x < 2 ^ w → y < 2 ^ w → subtract w (add w x y) y ≡ x
unfolding add subtract
sub-add w x y hx hy =
    mod-add-mod (x + y) (2 ^ w) (2 ^ w - y) ∙ back x (2 ^ w) (x + y + (2 ^ w - y)) hx (omega arith)

pub add-sub : (w x y : ℕ) → x < 2 ^ w → y < 2 ^ w → add w (subtract w x y) y ≡ x
unfolding add subtract
add-sub w x y hx hy =
    mod-add-mod (x + (2 ^ w - y)) (2 ^ w) y ∙ back x (2 ^ w) (x + (2 ^ w - y) + y) hx (omega arith)

-- rotations

turn-lt : (j k : ℕ) {x : ℕ} → x < 2 ^ (k + j) → turn j k x < 2 ^ (j + k)
unfolding turn
turn-lt j k {x} h = rw (pow-add 2 j k) (digits_lt (mod-lt x (pow_pos j)) (shr_lt k j h))

turn-turn : (j k : ℕ) {x : ℕ} → x < 2 ^ (k + j) → turn k j (turn j k x) ≡ x
unfolding turn
turn-turn j k {x} h =
    ap₂ (λ (p q : ℕ). p * 2 ^ j + q) (low (x % 2 ^ j) k (shr_lt k j h)) (high (x % 2 ^ j) k (shr_lt k j h)) ∙ split x j

module _ (w k x : ℕ) (hk : k ≤ w) (hx : x < 2 ^ w) where
  pub low_first : x < 2 ^ (k + (w - k))
  low_first = let e : k + (w - k) ≡ w = omega arith in rw e hx

  pub high-first : x < 2 ^ (w - k + k)
  high-first = let e : w - k + k ≡ w = omega arith in rw e hx

  pub rotate_left-lt : rotate_left w k x < 2 ^ w
  unfolding rotate_left
  rotate_left-lt = let e : w - k + k ≡ w = omega arith in rw e at (turn-lt (w - k) k low_first)

  pub rotate_right-lt : rotate_right w k x < 2 ^ w
  unfolding rotate_right
  rotate_right-lt = let e : k + (w - k) ≡ w = omega arith in rw e at (turn-lt k (w - k) high-first)

  pub right-left : rotate_right w k (rotate_left w k x) ≡ x
  unfolding rotate_left rotate_right
  right-left = turn-turn (w - k) k low_first

  pub left-right : rotate_left w k (rotate_right w k x) ≡ x
  unfolding rotate_left rotate_right
  left-right = turn-turn k (w - k) high-first

-- exclusive or

two_pos : zero < 2
two_pos = omega arith

pub xor_lt : (w x y : ℕ) → xor w x y < 2 ^ w
unfolding xor
xor_lt zero x y = omega arith
xor_lt (suc w) x y = rw (pow-suc 2 w) (digits_lt (xor_lt w (x / 2) (y / 2)) (mod-lt (x + y) two_pos))

-- what is xored twice with one word comes back
pub xor-xor : (w x y : ℕ) → x < 2 ^ w → xor w (xor w x y) y ≡ x
unfolding xor
xor-xor zero x y h = sym (lt-one h)
xor-xor (suc w) x y h =
    let r : ℕ = xor w (x / 2) (y / 2) in
    let d : ℕ = (x + y) % 2 in
    let hd : d < 2 = mod-lt (x + y) two_pos in
    let half : x / 2 < 2 ^ w = omega arith in
    let low_bit : (r * 2 + d + y) % 2 ≡ x % 2 = omega arith in
    ap₂ (λ (p q : ℕ). p * 2 + q)
    (ap (λ (n : ℕ). xor w n (y / 2)) (digits_div r hd) ∙ xor-xor w (x / 2) (y / 2) half)
    low_bit
    ∙ div-add-mod' x 2

-- What the machine's operators give on words of w bits, in the definitions' terms.
-- Assumes nothing.
use mathlib.Core.Path.{◌≡◌, refl, sym, ap, ap₂, ◌∙◌, subst, subst⁻¹}
use mathlib.Core.Bool.{Bool, true, false}
use Prim.Native.Nat.{ℕ, zero, suc, ◌+◌, ◌-◌, ◌*◌, ◌/◌, ◌%◌, ◌^◌, ◌≤◌, ◌<◌}
use native.Mathlib.Nat.{le_of_lt, lt_of_le_of_lt, mul-le-mul_left, mul-lt-mul_of_pos_right, mod-lt, add-mod, mod-add-mod, add-mod_right, mod-eq_of_lt, mul-mod_left, add_comm, add_assoc, add-mul, mul_assoc, add-zero, sub-zero, zero-add, zero-mul, mod-one, mod_self, div-one, div-eq_of_lt}
use native.Mathlib.Omega.{arith}
use lib.Dec.{leb}
use lib.Pow.{pow_pos, pow-lt, pow-add, mod-pow-add, shl-shr, shr-shr, shr_lt, shr_le, low, high, split}
use lib.Arith.{lt-one, digits_lt, digits_div}
use lib.Bits.{bit_or, bit_xor, or_shifted, or_shifted_r, xor_shifted, xor_step, differ}
use borrow.Author.Tests.{leb-true, leb-false}
use Rattle.lsh.specs.Word.{add, subtract, turn, rotate_left, rotate_right, xor}
use Rattle.lsh.proofs.Word.{low_first, high-first, rotate_left-lt, right-left}

-- rotations: `x << k | x >> j`, and the other way round, in a word of j + k bits
up : (j k x : ℕ) → (x * 2 ^ k) % 2 ^ (j + k) ≡ (x % 2 ^ j) * 2 ^ k
up j k x =
    mod-pow-add (x * 2 ^ k) j k
    ∙ ap₂ (λ (p q : ℕ). (p % 2 ^ j) * 2 ^ k + q) (shl-shr x k) (mul-mod_left x (2 ^ k))
    ∙ add-zero ((x % 2 ^ j) * 2 ^ k)

turn-or : (j k x : ℕ) → x < 2 ^ (k + j) → bit_or ((x * 2 ^ k) % 2 ^ (j + k)) (x / 2 ^ j) ≡ turn j k x
unfolding turn
turn-or j k x h = rw (up j k x) (or_shifted (x % 2 ^ j) k (x / 2 ^ j) (shr_lt k j h))

turn-or-r : (j k x : ℕ) → x < 2 ^ (k + j) → bit_or (x / 2 ^ j) ((x * 2 ^ k) % 2 ^ (j + k)) ≡ turn j k x
unfolding turn
turn-or-r j k x h = rw (up j k x) (or_shifted_r (x % 2 ^ j) k (x / 2 ^ j) (shr_lt k j h))

module _ (w k x : ℕ) (hk : k ≤ w) (hx : x < 2 ^ w) where
  pub left_is : bit_or ((x * 2 ^ k) % 2 ^ w) (x / 2 ^ (w - k)) ≡ rotate_left w k x
  unfolding rotate_left
  left_is =
      let e : w - k + k ≡ w = omega arith in
      subst (λ (n : ℕ). bit_or ((x * 2 ^ k) % 2 ^ n) (x / 2 ^ (w - k)) ≡ turn (w - k) k x) e (turn-or (w - k) k x (low_first w k x hk hx))

  pub right_is : bit_or (x / 2 ^ k) ((x * 2 ^ (w - k)) % 2 ^ w) ≡ rotate_right w k x
  unfolding rotate_right
  right_is =
      let e : k + (w - k) ≡ w = omega arith in
      subst (λ (n : ℕ). bit_or (x / 2 ^ k) ((x * 2 ^ (w - k)) % 2 ^ n) ≡ turn k (w - k) x) e (turn-or-r k (w - k) x (high-first w k x hk hx))

-- a rotation by 0 gives the word itself
pub left-none : (w k x : ℕ) → k ≡ 0 → x < 2 ^ w → x ≡ rotate_left w k x
unfolding rotate_left turn
left-none w k x e h =
    rw (e, sub-zero w)
    (sym (ap₂ (λ (p q : ℕ). p * 1 + q) (mod-eq_of_lt h) (div-eq_of_lt h) ∙ omega arith))

pub right-none : (w k x : ℕ) → k ≡ 0 → x < 2 ^ w → x ≡ rotate_right w k x
unfolding rotate_right turn
right-none w k x e h =
    rw e
    (sym (ap₂ (λ (p q : ℕ). p * 2 ^ (w - 0) + q) (mod-one x) (div-one x) ∙ ap (λ (n : ℕ). n + x) (zero-mul (2 ^ (w - 0))) ∙ zero-add x))

-- by l to the left is by what is left of the width to the right
pub left-right-is : (w l h x : ℕ) → l + h ≡ w → rotate_left w l x ≡ rotate_right w h x
unfolding rotate_left rotate_right
left-right-is w l h x e =
    let low : w - l ≡ h = omega arith in
    let high : l ≡ w - h = omega arith in
    ap₂ (λ (j k : ℕ). turn j k x) low high

pub right-left-is : (w k x : ℕ) → k < w → x < 2 ^ w → rotate_left w ((w - k) % w) x ≡ rotate_right w k x
right-left-is w zero x hk hx =
    let none : (w - 0) % w ≡ 0 = ap (λ (n : ℕ). n % w) (sub-zero w) ∙ mod_self w in
    sym (left-none w ((w - 0) % w) x none hx) ∙ right-none w 0 x refl hx
right-left-is w (suc k) x hk hx =
    let less : (w - suc k) % w ≡ w - suc k = mod-eq_of_lt (omega arith) in
    ap (λ (l : ℕ). rotate_left w l x) less ∙ left-right-is w (w - suc k) (suc k) x (omega arith)

-- two rotations, by i and then by k, of a + i + k bits: one by i + k
turn_more : (a i k x : ℕ) → x < 2 ^ (i + (a + k)) → turn (a + i) k (turn (a + k) i x) ≡ turn a (i + k) x
unfolding turn
turn_more a i k x h =
    let low-is : x % 2 ^ (a + k) ≡ mid * 2 ^ a + bot = ap (λ (n : ℕ). x % 2 ^ n) (add_comm a k) ∙ mod-pow-add x k a in
    let once : (x % 2 ^ (a + k)) * 2 ^ i + top ≡ mid * 2 ^ (a + i) + rest =
    ap (λ (n : ℕ). n * 2 ^ i + top) low-is
    ∙ ap (λ (n : ℕ). n + top) (add-mul (mid * 2 ^ a) bot (2 ^ i) ∙ ap (λ (n : ℕ). n + bot * 2 ^ i) (mul_assoc mid (2 ^ a) (2 ^ i) ∙ ap (λ (n : ℕ). mid * n) (sym (pow-add 2 a i))))
    ∙ add_assoc (mid * 2 ^ (a + i)) (bot * 2 ^ i) top in
    let below : rest < 2 ^ (a + i) = rw (pow-add 2 a i) (digits_lt (mod-lt x (pow_pos a)) (shr_lt i (a + k) h)) in
    ap₂ (λ (p q : ℕ). p * 2 ^ k + q) (ap (λ (n : ℕ). n % 2 ^ (a + i)) once ∙ low mid (a + i) below) (ap (λ (n : ℕ). n / 2 ^ (a + i)) once ∙ high mid (a + i) below)
    ∙ ap (λ (n : ℕ). n + mid) (add-mul (bot * 2 ^ i) top (2 ^ k) ∙ ap (λ (n : ℕ). n + top * 2 ^ k) (mul_assoc bot (2 ^ i) (2 ^ k) ∙ ap (λ (n : ℕ). bot * n) (sym (pow-add 2 i k))))
    ∙ add_assoc (bot * 2 ^ (i + k)) (top * 2 ^ k) mid
    ∙ ap (λ (n : ℕ). bot * 2 ^ (i + k) + n) (ap (λ (n : ℕ). n * 2 ^ k + mid) (sym (shr-shr x a k)) ∙ split (x / 2 ^ a) k)
  where
    top : ℕ
    top = x / 2 ^ (a + k)

    mid : ℕ
    mid = x / 2 ^ a % 2 ^ k

    bot : ℕ
    bot = x % 2 ^ a

    rest : ℕ
    rest = bot * 2 ^ i + top

left-more : (w i k x : ℕ) → i + k ≤ w → x < 2 ^ w → rotate_left w k (rotate_left w i x) ≡ rotate_left w (i + k) x
unfolding rotate_left
left-more w i k x h hx =
    let first : w - i ≡ w - (i + k) + k = omega arith in
    let second : w - k ≡ w - (i + k) + i = omega arith in
    let all : i + (w - (i + k) + k) ≡ w = omega arith in
    ap₂ (λ (p q : ℕ). turn p k (turn q i x)) second first ∙ turn_more (w - (i + k)) i k x (rw all hx)

pub left-left : (w i k x : ℕ) → i < w → k < w → x < 2 ^ w → rotate_left w k (rotate_left w i x) ≡ rotate_left w ((i + k) % w) x
left-left w i k x hi hk hx = go (leb w (i + k)) refl
  where
    Law : Type 0
    Law = rotate_left w k (rotate_left w i x) ≡ rotate_left w ((i + k) % w) x

    go : (t : Bool) → leb w (i + k) ≡ t → Law
    go false e =
        let less : i + k < w = leb-false w (i + k) e in
        left-more w i k x (le_of_lt less) hx ∙ ap (λ (n : ℕ). rotate_left w n x) (sym (mod-eq_of_lt less))
    -- w - i places of the second rotation take the first one back
    go true e =
        let y : ℕ = rotate_left w i x in
        let m : ℕ = i + k - w in
        let past : w ≤ i + k = leb-true w (i + k) e in
        let parts : k ≡ w - i + m = omega arith in
        let sum : i + k ≡ m + w = omega arith in
        let over : (i + k) % w ≡ m = ap (λ (n : ℕ). n % w) sum ∙ add-mod_right m w ∙ mod-eq_of_lt (omega arith) in
        ap (λ (n : ℕ). rotate_left w n y) parts
        ∙ sym (left-more w (w - i) m y (omega arith) (rotate_left-lt w i x (le_of_lt hi) hx))
        ∙ ap (rotate_left w m) (left-right-is w (w - i) i y (omega arith) ∙ right-left w i x (le_of_lt hi) hx)
        ∙ ap (λ (n : ℕ). rotate_left w n x) (sym over)

-- two shifts whose amounts are the width together
pub turned-is : (w l h x : ℕ) → l + h ≡ w → x < 2 ^ w
    → (bit_or ((x * 2 ^ l) % 2 ^ w) (x / 2 ^ h) ≡ rotate_left w l x) × (bit_or ((x * 2 ^ l) % 2 ^ w) (x / 2 ^ h) ≡ rotate_right w h x)
turned-is w l h x e hx =
    let rest : h ≡ w - l = omega arith in
    let left : bit_or ((x * 2 ^ l) % 2 ^ w) (x / 2 ^ h) ≡ rotate_left w l x = rw rest (left_is w l x (omega arith) hx) in
    (left, left ∙ left-right-is w l h x e)

-- a product of two words has at most twice their bits
pub product_lt : (k : ℕ) {a b : ℕ} → a < 2 ^ k → b < 2 ^ k → a * b < 2 ^ (k + k)
product_lt k {a} {b} ha hb =
    subst⁻¹ (λ (n : ℕ). a * b < n) (pow-add 2 k k)
    (lt_of_le_of_lt (mul-le-mul_left a (le_of_lt hb)) (mul-lt-mul_of_pos_right ha (pow_pos k)))

-- the sum of the two halves of a product with 2 to the k, where the code has x as r and cuts the power to the width
pub product_is : (w k x : ℕ) {r p : ℕ} → r ≡ x → p ≡ 2 ^ k → k < w → x < 2 ^ w
    → add w ((r * (p % 2 ^ w)) % 2 ^ w) (r * (p % 2 ^ w) / 2 ^ w) ≡ rotate_left w k x
unfolding add rotate_left turn
product_is w k x {r} {p} er ep hk hx =
    let below : w - k + k ≡ w = omega arith in
    let above : k + (w - k) ≡ w = omega arith in
    let power : p % 2 ^ w ≡ 2 ^ k = ap (λ (n : ℕ). n % 2 ^ w) ep ∙ mod-eq_of_lt (pow-lt hk) in
    let low : (x * 2 ^ k) % 2 ^ w ≡ (x % 2 ^ (w - k)) * 2 ^ k =
    subst (λ (n : ℕ). (x * 2 ^ k) % 2 ^ n ≡ (x % 2 ^ (w - k)) * 2 ^ k) below (up (w - k) k x) in
    let high : x * 2 ^ k / 2 ^ w ≡ x / 2 ^ (w - k) =
    ap (λ (n : ℕ). x * 2 ^ k / 2 ^ n) (sym above) ∙ sym (shr-shr (x * 2 ^ k) k (w - k)) ∙ ap (λ (n : ℕ). n / 2 ^ (w - k)) (shl-shr x k) in
    ap₂ (λ (m n : ℕ). ((m * n) % 2 ^ w + m * n / 2 ^ w) % 2 ^ w) er power
    ∙ ap₂ (λ (m n : ℕ). (m + n) % 2 ^ w) low high
    ∙ mod-eq_of_lt (rotate_left-lt w k x (le_of_lt hk) hx)

-- a rotation is the sum of its two parts, which are added to y one after the other
pub add_left : (w k x y : ℕ) → k ≤ w → add w (add w y (x / 2 ^ (w - k))) ((x * 2 ^ k) % 2 ^ w) ≡ add w y (rotate_left w k x)
unfolding add rotate_left turn
add_left w k x y hk =
    let e : w - k + k ≡ w = omega arith in
    mod-add-mod (y + x / 2 ^ (w - k)) (2 ^ w) ((x * 2 ^ k) % 2 ^ w)
    ∙ ap (λ (n : ℕ). (y + x / 2 ^ (w - k) + n) % 2 ^ w) (ap (λ (n : ℕ). (x * 2 ^ k) % 2 ^ n) (sym e) ∙ up (w - k) k x)
    ∙ ap (λ (n : ℕ). n % 2 ^ w) (omega arith)

-- a sum by differences: the complement of x is taken off, and then 1
pub add_is : (w x y : ℕ) → x < 2 ^ w → subtract w (subtract w y (2 ^ w - 1 - x)) 1 ≡ add w x y
unfolding add subtract
add_is w x y hx =
    mod-add-mod (y + (2 ^ w - (2 ^ w - 1 - x))) (2 ^ w) (2 ^ w - 1)
    ∙ ap (λ (n : ℕ). n % 2 ^ w) (omega arith)
    ∙ add-mod_right (x + y) (2 ^ w)

-- exclusive or

two_pos : zero < 2
two_pos = omega arith

digit : (a b : ℕ) → a < 2 → b < 2 → differ a b ≡ (a + b) % 2
digit zero zero ha hb = refl
digit zero (suc zero) ha hb = refl
digit (suc zero) zero ha hb = refl
digit (suc zero) (suc zero) ha hb = refl
digit zero (suc (suc b)) ha hb = absurd (omega arith)
digit (suc zero) (suc (suc b)) ha hb = absurd (omega arith)
digit (suc (suc a)) b ha hb = absurd (omega arith)

pub xor_is : (w x y : ℕ) → x < 2 ^ w → y < 2 ^ w → bit_xor x y ≡ xor w x y
unfolding xor
xor_is zero x y hx hy = ap₂ bit_xor (lt-one hx) (lt-one hy)
xor_is (suc w) x y hx hy =
    xor_step x y
    ∙ ap₂ (λ (p q : ℕ). p * 2 + q)
    (xor_is w (x / 2) (y / 2) (omega arith) (omega arith))
    (digit (x % 2) (y % 2) (mod-lt x two_pos) (mod-lt y two_pos) ∙ sym (add-mod x y 2))

xor_comm : (w x y : ℕ) → xor w x y ≡ xor w y x
unfolding xor
xor_comm zero x y = refl
xor_comm (suc w) x y = ap₂ (λ (p q : ℕ). p * 2 + q) (xor_comm w (x / 2) (y / 2)) (ap (λ (n : ℕ). n % 2) (add_comm x y))

xor_assoc : (w x y u : ℕ) → xor w (xor w x y) u ≡ xor w x (xor w y u)
unfolding xor
xor_assoc zero x y u = refl
xor_assoc (suc w) x y u =
    let p : ℕ = xor w (x / 2) (y / 2) in
    let q : ℕ = xor w (y / 2) (u / 2) in
    let low : (p * 2 + (x + y) % 2 + u) % 2 ≡ (x + (q * 2 + (y + u) % 2)) % 2 = omega arith in
    ap₂ (λ (m n : ℕ). m * 2 + n)
    (ap (λ (n : ℕ). xor w n (u / 2)) (digits_div p (mod-lt (x + y) two_pos)) ∙ xor_assoc w (x / 2) (y / 2) (u / 2) ∙ ap (xor w (x / 2)) (sym (digits_div q (mod-lt (y + u) two_pos))))
    low

-- the two parts of a rotation are xored with c one after the other
pub xor-left : (w k x c : ℕ) → k ≤ w → x < 2 ^ w → xor w (xor w c ((x * 2 ^ k) % 2 ^ w)) (x / 2 ^ (w - k)) ≡ xor w (rotate_left w k x) c
unfolding rotate_left turn
xor-left w k x c hk hx =
    let e : w - k + k ≡ w = omega arith in
    let up_is : (x * 2 ^ k) % 2 ^ w ≡ (x % 2 ^ (w - k)) * 2 ^ k = ap (λ (n : ℕ). (x * 2 ^ k) % 2 ^ n) (sym e) ∙ up (w - k) k x in
    let below : x / 2 ^ (w - k) < 2 ^ k = shr_lt k (w - k) (low_first w k x hk hx) in
    let parts : xor w ((x * 2 ^ k) % 2 ^ w) (x / 2 ^ (w - k)) ≡ (x % 2 ^ (w - k)) * 2 ^ k + x / 2 ^ (w - k) =
    sym (xor_is w ((x * 2 ^ k) % 2 ^ w) (x / 2 ^ (w - k)) (mod-lt (x * 2 ^ k) (pow_pos w)) (lt_of_le_of_lt (shr_le x (w - k)) hx))
    ∙ ap (λ (n : ℕ). bit_xor n (x / 2 ^ (w - k))) up_is
    ∙ xor_shifted (x % 2 ^ (w - k)) k (x / 2 ^ (w - k)) below in
    xor_assoc w c ((x * 2 ^ k) % 2 ^ w) (x / 2 ^ (w - k)) ∙ xor_comm w c _ ∙ ap (λ (n : ℕ). xor w n c) parts

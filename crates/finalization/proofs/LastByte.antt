-- The masks of a message's last byte.
-- Assumes nothing.
use mathlib.Core.Path.{◌≡◌, ap, ◌∙◌}
use mathlib.Core.Bool.{Bool, true, cond}
use Prim.Native.Nat.{ℕ, ◌+◌, ◌-◌, ◌/◌, ◌%◌, ◌^◌, ◌≤◌, ◌<◌}
use native.Mathlib.Omega.{arith}
use lib.Bits.{bit_and, and_mask}
use lib.Dec.{T, eqb, eqb→eq, ltb, ltb→lt}
use borrow.Author.Tests.{eq-eqb}
use Rattle.lsh.proofs.Tests.{all_pass, at-all_pass}

mask : (e : ℕ) → e ≤ 7 → 255 / 2 ^ e ≡ 2 ^ (8 - e) - 1
mask e h = eqb→eq _ _ (at-all_pass 8 (λ k. eqb (255 / 2 ^ k) (2 ^ (8 - k) - 1)) tt e (omega arith))

-- 255 >> e leaves the low 8 - e bits
pub low : (x e : ℕ) → e ≤ 7 → bit_and x (255 / 2 ^ e) ≡ x % 2 ^ (8 - e)
low x e h = ap (bit_and x) (mask e h) ∙ and_mask x (8 - e)

-- 128 >> e is the bit after the top e
pub next_bit : (e : ℕ) → e ≤ 7 → 128 / 2 ^ e ≡ 2 ^ (7 - e)
next_bit e h = eqb→eq _ _ (at-all_pass 8 (λ k. eqb (128 / 2 ^ k) (2 ^ (7 - k))) tt e (omega arith))

-- which is not set where the low 8 - e bits are 0
abbrev fits : ℕ → ℕ → Bool
fits e x = cond (eqb (x % 2 ^ (8 - e)) 0) (ltb (x + 2 ^ (7 - e)) 256) true

pub next_fits : (x e : ℕ) → x < 256 → e ≤ 7 → x % 2 ^ (8 - e) ≡ 0 → x + 2 ^ (7 - e) < 256
next_fits x e hx he zero =
    let t : T (fits e x) = at-all_pass 256 (fits e) (at-all_pass 8 (λ k. all_pass 256 (fits k)) tt e (omega arith)) x hx in
    ltb→lt _ _ (rw (eq-eqb (x % 2 ^ (8 - e)) 0 zero) at t)

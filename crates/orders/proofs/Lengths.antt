-- What the tests of the lengths of a Rewind say, where blocks have b bytes.
-- Assumes nothing.
use mathlib.Core.Path.{◌≡◌, ap, ◌∙◌}
use mathlib.Core.Bool.{false, not}
use Prim.Native.Nat.{ℕ, ◌+◌, ◌-◌, ◌*◌, ◌/◌, ◌%◌, ◌≤◌, ◌<◌}
use native.Mathlib.Nat.{div-add-mod', mul-add-mod_self_right}
use native.Mathlib.Omega.{arith}
use lib.Dec.{eqb, ltb, leb}
use borrow.Author.Tests.{eqb-true, eq-eqb, ltb-false, le-ltb, leb-false, not-false}
use Rattle.lsh.proofs.Tests.{or-false}
use Rattle.orders.specs.Rewind.{starts_off_block, keeps_too_much}

-- size bytes that begin with a block
pub record OnBlock (b total size : ℕ) : Type 0 where
  pub fits : size ≤ total
  pub whole : (total - size) % b ≡ 0

pub on-block : (b total size : ℕ) → starts_off_block b total size ≡ false → OnBlock b total size
unfolding starts_off_block
on-block b total size e =
    let p : (ltb total size ≡ false) × (not (eqb ((total - size) % b) 0) ≡ false) = or-false (ltb total size) (not (eqb ((total - size) % b) 0)) e in
    record { fits = ltb-false total size p.0; whole = eqb-true ((total - size) % b) 0 (not-false (eqb ((total - size) % b) 0) p.1) }

-- and back
pub starts-on : (b total size : ℕ) → OnBlock b total size → starts_off_block b total size ≡ false
unfolding starts_off_block
starts-on b total size on = rw (le-ltb total size on.fits, eq-eqb ((total - size) % b) 0 on.whole)

pub keeps-few : (b keep size : ℕ) → keeps_too_much b keep size ≡ false → (keep ≤ size) × (keep < b)
unfolding keeps_too_much
keeps-few b keep size e =
    let p : (ltb size keep ≡ false) × (leb b keep ≡ false) = or-false (ltb size keep) (leb b keep) e in
    (ltb-false size keep p.0, leb-false b keep p.1)

module _ (b total size : ℕ) (on : OnBlock b total size) where
  -- the total: the blocks before, and the bytes handed back
  pub total-is : total ≡ (total - size) / b * b + size
  total-is = omega (arith, div-add-mod' (total - size) b, on.whole, on.fits)

  -- as many bytes of each are past the last whole block
  pub same-fill : total % b ≡ size % b
  same-fill = ap (λ (k : ℕ). k % b) total-is ∙ mul-add-mod_self_right ((total - size) / b) b size

  pub fill-le : total % b ≤ size
  fill-le = omega (arith, same-fill, div-add-mod' size b)

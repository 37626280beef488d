-- What the tests of the lengths of a split rewind say, and how many bytes were handed back.
-- Assumes nothing.
use mathlib.Core.Path.{◌≡◌, ap, ◌∙◌}
use mathlib.Core.Bool.{true, false, not}
use Prim.Native.Nat.{ℕ, ◌+◌, ◌-◌, ◌*◌, ◌/◌, ◌%◌, ◌≤◌, ◌<◌}
use native.Mathlib.Nat.{add-mul, div-add-mod', mul-add-div_right, div-eq_of_lt, mod-lt, mul-mod_left, mul-le-mul_right}
use native.Mathlib.Omega.{arith}
use lib.Dec.{eqb, leb}
use lib.ListN.{length}
use borrow.Author.Tests.{eqb-true, leb-false, not-false}
use Rattle.lsh.specs.WordSize.{size_of, block_bytes}
use Rattle.lsh.specs.Block.{Chain}
use Rattle.lsh.proofs.Figures.{block-some}
use Rattle.lsh.proofs.Tests.{or-false}
use Rattle.orders.specs.declared.Record.{Record}
use Rattle.orders.specs.Record.{sound, is_begun}
use Rattle.orders.proofs.Sound.{sounds, chain-is}
use Rattle.orders.proofs.Begun.{begun-is}
use Rattle.orders.proofs.Lengths.{OnBlock}
use Rattle.orders.specs.HandBack.{no_block}
use Rattle.orders.specs.End.{handed}

-- a block, and one that remains
pub a_block : (b total blocks size : ℕ) → no_block b total blocks size ≡ false → (size ≡ b) × (blocks < total / b)
unfolding no_block
a_block b total blocks size e =
    let p : (not (eqb size b) ≡ false) × (leb (total / b) blocks ≡ false) = or-false (not (eqb size b)) (leb (total / b) blocks) e in
    (eqb-true size b (not-false (eqb size b) p.0), leb-false (total / b) blocks p.1)

-- k blocks and what is past the last whole block: they begin with a block, and so many blocks are before them
module _ (b total k : ℕ) (le : k ≤ total / b) where
  pub before-is : total - (k * b + total % b) ≡ (total / b - k) * b
  before-is =
      let all : total / b ≡ total / b - k + k = omega (arith, le) in
      omega (arith, div-add-mod' total b, ap (λ (q : ℕ). q * b) all ∙ add-mul (total / b - k) k b)

  pub blocks-on : OnBlock b total (k * b + total % b)
  blocks-on =
      record {
        fits = omega (arith, mul-le-mul_right b le, div-add-mod' total b);
        whole = ap (λ (n : ℕ). n % b) before-is ∙ mul-mod_left (total / b - k) b;
      }

module _ (r : Record) where
  abbrev B : ℕ
  B = block_bytes (size_of r.w)

  -- their whole blocks
  pub handed-blocks : handed r / B ≡ r.split.blocks
  unfolding handed
  handed-blocks =
      let fill : r.total % B < B = mod-lt r.total (block-some r.w) in
      omega (arith, mul-add-div_right (block-some r.w) r.split.blocks (r.total % B), div-eq_of_lt fill)

  module _ (ok : sound r ≡ true) (begun : is_begun r ≡ true) where
    -- no more than the order has
    pub handed-most : handed r ≤ r.total
    unfolding handed
    handed-most = (blocks-on B r.total r.split.blocks (begun-is r ok begun).up_to).fits

    pub second-chain : length r.split.second ≡ 16 → Chain (size_of r.w) r.split.second
    second-chain words = chain-is r.w r.split.second (sounds r ok).word words (begun-is r ok begun).below

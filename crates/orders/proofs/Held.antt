-- How many bytes a record holds.
-- Assumes nothing.
use mathlib.Core.Path.{◌≡◌, refl}
use Prim.Native.Nat.{ℕ, ◌≤◌, ◌<◌}
use native.Mathlib.Nat.{mod-lt}
use native.Mathlib.Omega.{arith}
use lib.ListN.{length}
use lib.Seq.{length-take-le}
use Rattle.lsh.specs.WordSize.{size_of, block_bytes}
use Rattle.lsh.proofs.Figures.{block-some}
use Rattle.limits.specs.Limits.{longest_block}
use Rattle.limits.proofs.Limits.{block-most}
use Rattle.orders.specs.declared.Record.{Record}
use Rattle.orders.specs.Record.{held_length, held_bytes}

pub fill-most : (w total : ℕ) → held_length w total ≤ longest_block
fill-most w total = omega (arith, mod-lt total (block-some w), block-most w)

module _ (r : Record) (long : length r.held ≡ longest_block) where
  abbrev B : ℕ
  B = block_bytes (size_of r.w)

  pub fill-lt : held_length r.w r.total < B
  fill-lt = mod-lt r.total (block-some r.w)

  pub fill-in : {k : ℕ} → k ≡ held_length r.w r.total → k ≤ length r.held
  fill-in is = omega (arith, fill-lt, block-most r.w)

  pub held-length : length (held_bytes r) ≡ held_length r.w r.total
  unfolding held_bytes
  held-length = length-take-le (held_length r.w r.total) r.held (fill-in refl)

-- Checkpoints by the bytes of an order: one for every 64 blocks.
-- Assumes nothing.
use mathlib.Core.Path.{◌≡◌, ap, ◌∙◌}
use Prim.Native.Nat.{ℕ, ◌+◌, ◌-◌, ◌*◌, ◌/◌, ◌%◌, ◌≤◌, ◌<◌}
use native.Mathlib.Nat.{div-div-eq-div-mul, mul_comm, mul-div_cancel, div-add-mod', mod-lt, le-div_iff_mul-le, div-lt_iff_lt-mul}
use native.Mathlib.Omega.{arith}
use Rattle.lsh.specs.WordSize.{size_of, block_bytes}
use Rattle.lsh.proofs.Figures.{block-some}
use Rattle.checkpoints.specs.Due.{spacing}
use Rattle.checkpoints.specs.Roll.{checkpoints}

module _ (w : ℕ) where
  abbrev B : ℕ
  B = block_bytes (size_of w)

  -- the bytes from a checkpoint to the next
  abbrev pub step : ℕ
  step = spacing * B

  -- at a checkpoint
  pub blocks_at : (k : ℕ) → k * step / B ≡ spacing * k
  blocks_at k =
      let bytes : k * step ≡ spacing * k * B = omega arith in
      ap (λ (n : ℕ). n / B) bytes ∙ mul-div_cancel (spacing * k) (block-some w)

  pub at-checkpoint : (k : ℕ) → checkpoints w (k * step) ≡ k
  unfolding checkpoints
  at-checkpoint k = omega (arith, blocks_at k)

  -- before it
  pub unreached : (k b : ℕ) → b < k * step → checkpoints w b < k
  unfolding checkpoints
  unreached k b lt =
      let few : b / B < spacing * k = (div-lt_iff_lt-mul (block-some w)).1 (omega arith) in
      omega arith

  -- with more bytes there are no fewer whole blocks, and no fewer checkpoints
  pub no-fewer-blocks : (a b : ℕ) → a ≤ b → a / B ≤ b / B
  no-fewer-blocks a b le = (le-div_iff_mul-le (block-some w)).1 (omega (arith, div-add-mod' a B))

  pub no-fewer : (a b : ℕ) → a ≤ b → checkpoints w a ≤ checkpoints w b
  unfolding checkpoints
  no-fewer a b le = omega (arith, no-fewer-blocks a b le)

  -- what is left to the next checkpoint
  pub to-next : (total n : ℕ) → n ≡ step - total % step → total + n ≡ (checkpoints w total + 1) * step
  unfolding checkpoints
  to-next total n e =
      let some : 0 < step = omega (arith, block-some w) in
      let by_bytes : total / B / spacing ≡ total / step = div-div-eq-div-mul total B spacing ∙ ap (λ (k : ℕ). total / k) (mul_comm B spacing) in
      rw (by_bytes, e) (omega (arith, div-add-mod' total step, mod-lt total some))

-- The total after a piece, and the bytes held then.
-- Assumes nothing.
use mathlib.Core.Path.{◌≡◌, sym, ap, ◌∙◌}
use mathlib.Core.List.{List, ◌++◌}
use Prim.Native.Nat.{ℕ, ◌+◌, ◌-◌, ◌*◌, ◌/◌, ◌%◌}
use native.Mathlib.Nat.{div-add-mod', mul-add-mod_self_right}
use native.Mathlib.Omega.{arith}
use lib.ListN.{length, replicate, length-append}
use lib.Seq.{take_at}
use Rattle.lsh.specs.WordSize.{size_of, block_bytes}
use Rattle.lsh.specs.Padding.{rest_of}
use Rattle.lsh.proofs.Figures.{block-some}
use Rattle.lsh.proofs.Padding.{length_rest}
use Rattle.limits.specs.Limits.{longest_block}
use Rattle.orders.specs.declared.Record.{Record}
use Rattle.orders.specs.Record.{held_of, held_bytes}
use Rattle.orders.proofs.Held.{held-length}
use Rattle.orders.specs.Append.{appended}

module _ (r : Record) (long : length r.held ≡ longest_block) where
  abbrev B : ℕ
  B = block_bytes (size_of r.w)

  -- the new total: the whole blocks of the old one, and the string of the bytes held and the piece
  pub total-is : (p : List ℕ) → r.total + length p ≡ r.total / B * B + length (held_bytes r ++ p)
  total-is p = omega (arith, div-add-mod' r.total B, held-length r long, length-append (held_bytes r) p)

  -- as many bytes are held then as are left of that string
  pub rest-length : (p : List ℕ) → (r.total + length p) % B ≡ length (rest_of (size_of r.w) (held_bytes r ++ p))
  rest-length p =
      ap (λ (n : ℕ). n % B) (total-is p)
      ∙ mul-add-mod_self_right (r.total / B) B (length (held_bytes r ++ p))
      ∙ sym (length_rest (size_of r.w) (block-some r.w) (held_bytes r ++ p))

  pub held_after : (p : List ℕ) → held_bytes (appended r p) ≡ rest_of (size_of r.w) (held_bytes r ++ p)
  unfolding held_bytes appended held_of
  held_after p =
      let rest : List ℕ = rest_of (size_of r.w) (held_bytes r ++ p) in
      take_at rest (replicate (longest_block - length rest) 0) ((r.total + length p) % B) (sym (rest-length p))

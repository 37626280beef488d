-- The chain after the first bytes of a piece is that of the order's whole blocks there.
-- Assumes nothing.
use mathlib.Core.Path.{◌≡◌, sym, ap, ap₂, ◌∙◌}
use mathlib.Core.List.{List, ◌++◌, append_assoc}
use Prim.Native.Nat.{ℕ, ◌+◌, ◌-◌, ◌*◌, ◌/◌, ◌≤◌}
use native.Mathlib.Nat.{mul-add-div_right, div-add-mod'}
use native.Mathlib.Omega.{arith}
use lib.ListN.{length}
use Rattle.lsh.specs.WordSize.{WordSize, size_of, block_bytes}
use Rattle.lsh.specs.Chains.{chain_after}
use Rattle.lsh.proofs.Figures.{block-some}
use Rattle.lsh.proofs.Chains.{after-all, after_front}
use Rattle.limits.specs.Limits.{longest_block}
use Rattle.orders.specs.declared.Record.{Record}
use Rattle.orders.specs.Record.{held_bytes}
use Rattle.orders.specs.Append.{appended}
use Rattle.orders.proofs.AfterPiece.{total-is}
use Rattle.checkpoints.specs.AppendRoll.{chain_at}

module _ (r : Record) (long : length r.held ≡ longest_block) where
  abbrev Z : WordSize
  Z = size_of r.w

  abbrev B : ℕ
  B = block_bytes Z

  pub chain-front : (p q : List ℕ) → (appended r p).chain ≡ chain_at r (p ++ q) ((r.total + length p) / B)
  unfolding appended chain_at
  chain-front p q =
      let whole : List ℕ = held_bytes r ++ p in
      let n : length whole / B ≡ (r.total + length p) / B - r.total / B =
      omega (arith, ap (λ (k : ℕ). k / B) (total-is r long p) ∙ mul-add-div_right (block-some r.w) (r.total / B) (length whole)) in
      let few : length whole / B * B ≤ length whole = omega (arith, div-add-mod' (length whole) B) in
      sym (after_front Z r.chain whole q (length whole / B) few ∙ after-all Z r.chain whole)
      ∙ ap₂ (chain_after Z r.chain) (append_assoc (held_bytes r) p q) n

use mathlib.Core.Path.{◌≡◌, ap, ◌∙◌}
use Prim.Native.Nat.{ℕ, ◌+◌, ◌-◌, ◌/◌}
use native.Mathlib.Omega.{arith}
use native.Mathlib.Nat.{mod-le}
use lib.ListN.{length, set, take}
use borrow.Author.Rules.{rules}
use Rattle.lsh.specs.Tabulate.{at}
use Rattle.lsh.proofs.Figures.{word-most}
use Rattle.limits.specs.Limits.{longest_block}
use Rattle.receipts.proofs.Receipts.{cut-front}
use Rattle.finalization.proofs.digest_bytes.Goals as goal

pub bounds-s-last : goal.bounds-s-last
bounds-s-last c = omega (arith, word-most _ c.requires.0)

pub overflow_sub-s : goal.overflow_sub-s
overflow_sub-s c = rw c.low_bits.ensures (mod-le _ _)

pub bounds-s-last-2 : goal.bounds-s-last-2
bounds-s-last-2 c = omega (arith, word-most _ c.requires.0)

pub bounds-s-last-3 : goal.bounds-s-last-3
bounds-s-last-3 c = omega (arith, word-most _ c.requires.0)

pub returns : goal.returns
returns c = let n = c.args.n in
    let s = c.final_bytes-s.result in
    let long : length s ≡ longest_block = search rules in
    ap (λ (x : ℕ). take ((n + 7) / 8) (set s (n / 8) (at s (n / 8) - x))) c.low_bits.ensures
    ∙ cut-front _ _ _ c.requires.0 c.requires.1 s c.final_bytes-s.ensures (omega (arith, word-most _ c.requires.0))

use mathlib.Core.Path.{◌≡◌, ap, ◌∙◌}
use Prim.Native.Nat.{ℕ}
use native.Mathlib.Omega.{arith}
use lib.Bits.{bit_xor}
use lib.ListN.{length, get_or}
use mir.Syntax.{w8}
use mir.Val.{Fits}
use borrow.Author.Rules.{rules}
use Rattle.lsh.specs.Tabulate.{at}
use Rattle.loops.proofs.Machine.{xor_is}
use Rattle.loops.proofs.Places.{placed-none, filled_more, filled-all}
use Rattle.limits.specs.Limits.{longest_block}
use Rattle.tags.specs.Hmac.{xor_each}
use Rattle.hmac.proofs.xor_each.Goals as goal
use Rattle.hmac.proofs.xor_each.Goals.{Start}

fits : (z : Start) (i : ℕ) → Fits w8 (get_or z.args.block i 0)
fits z i = search rules

pub loop-byte-init : goal.loop-byte-init
loop-byte-init c = placed-none _ _ _ _

pub loop-byte-preserved : goal.loop-byte-preserved
loop-byte-preserved c = let z = (goal.at.loop-byte-preserved c).Start in
    let i : ℕ = c.loop-byte.byte-index in
    let long : length z.args.block ≡ longest_block = search rules in
    let same : at c.loop-byte.byte-items i ≡ at z.args.block i = c.loop-byte.invariant.rest i (λ k lt e. omega arith) in
    filled_more _ c.loop-byte.invariant c.loop-byte-test.true (omega arith)
    (ap (λ (b : ℕ). bit_xor b z.args.x) same ∙ xor_is 8 (at z.args.block i) z.args.x (fits z i).fits z.ranges.x.fits)

pub returns : goal.returns
unfolding xor_each
returns c = let long : length c.args.block ≡ longest_block = search rules in
    filled-all c.loop-byte.invariant c.loop-byte-test.false long ∙ rw long

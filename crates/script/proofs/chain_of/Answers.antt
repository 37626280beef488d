use mathlib.Core.Path.{refl, ◌∙◌}
use Prim.Native.Nat.{◌/◌, ◌<◌}
use native.Mathlib.Omega.{arith}
use lib.ListN.{length}
use Rattle.loops.proofs.Places.{placed-none, filled_more, filled-all}
use Rattle.script.proofs.Chains.{word-is}
use Rattle.script.proofs.chain_of.Goals as goal

pub loop-l-init : goal.loop-l-init
loop-l-init c = placed-none _ _ _ _

pub loop-l-preserved : goal.loop-l-preserved
loop-l-preserved c =
    let few : c.loop-l.l < length c.args.bytes.now / 8 = omega (arith, c.as_chunks.ensures.front_len) in
    filled_more _ c.loop-l.invariant (omega (arith, c.requires)) (omega arith)
    (c.from_be_bytes.ensures ∙ word-is c.args.bytes.now c.as_chunks.result.0.now c.as_chunks.ensures.front c.loop-l.l few)

pub returns : goal.returns
returns c = filled-all c.loop-l.invariant (omega (arith, c.as_chunks.ensures.front_len, c.requires)) refl

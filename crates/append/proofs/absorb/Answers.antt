use mathlib.Core.Path.{ap, ◌∙◌}
use native.Mathlib.Omega.{arith}
use Rattle.runs.proofs.Rest.{rest-is, rest-short}
use Rattle.orders.specs.Record.{held_of}
use Rattle.limits.proofs.Limits.{block-most}
use Rattle.append.proofs.absorb.Goals as goal

pub zero_filled-requires : goal.zero_filled-requires
unfolding held_of
zero_filled-requires c = omega (arith, rest-short _ c.args.piece.now c.forward-count.ensures.1 c.block_bytes.ensures, block-most c.args.w)

pub returns : goal.returns
unfolding held_of
returns c = let f = c.forward-count in (
  f.ensures.0,
  f.ensures.1,
  c.zero_filled.ensures ∙ ap held_of (rest-is _ c.args.piece.now f.ensures.1 c.block_bytes.ensures),
)

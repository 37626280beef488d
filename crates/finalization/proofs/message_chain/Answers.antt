use mathlib.Core.Path.{◌∙◌}
use native.Mathlib.Omega.{arith}
use Rattle.runs.proofs.Rest.{inside, rest-short}
use Rattle.finalization.proofs.MessageChain.{run-chain, last-run}
use Rattle.finalization.proofs.message_chain.Goals as goal

pub overflow_mul-whole : goal.overflow_mul-whole
overflow_mul-whole c = record { fits = omega (arith, inside _ c.args.message.now c.forward-run.ensures.1 c.block_bytes.ensures) }

pub slice_bounds-last_chain-count : goal.slice_bounds-last_chain-count
slice_bounds-last_chain-count c = inside _ c.args.message.now c.forward-run.ensures.1 c.block_bytes.ensures

pub slice_bounds-last_chain-start : goal.slice_bounds-last_chain-start
slice_bounds-last_chain-start c = inside _ c.args.message.now c.forward-run.ensures.1 c.block_bytes.ensures

pub last_chain-requires : goal.last_chain-requires
last_chain-requires c = (
  c.requires.0,
  run-chain _ _ c.requires.1 c.forward-run.ensures.0,
  rest-short _ c.args.message.now c.forward-run.ensures.1 c.block_bytes.ensures,
)

pub returns : goal.returns
returns c = c.last_chain.ensures ∙ last-run _ c.args.message.now c.forward-run.ensures.1 c.block_bytes.ensures _ _ c.forward-run.ensures.0

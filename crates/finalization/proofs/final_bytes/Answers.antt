use mathlib.Core.Path.{sym, ◌∙◌}
use Prim.Native.Nat.{◌≤◌}
use native.Mathlib.Omega.{arith}
use lib.ListN.{length, length-replicate}
use lib.Seq.{length-take-le}
use Rattle.lsh.specs.WordSize.{chain_bytes, block_bytes}
use Rattle.limits.proofs.Limits.{block-most}
use Rattle.receipts.proofs.FinalBytes.{words-chain, front-is-final}
use Rattle.finalization.proofs.final_bytes.Goals as goal
use Rattle.finalization.proofs.final_bytes.Goals.{After-chain_bytes-size}

-- the bytes of a chain fit
room : (c : After-chain_bytes-size) → c.chain_bytes-size.result ≤ length c.zero_bytes-s.result
unfolding chain_bytes block_bytes
room c =
    rw (c.chain_bytes-size.ensures, c.zero_bytes-s.ensures, length-replicate) (omega (arith, block-most c.args.w))

pub slice_bounds-s-end : goal.slice_bounds-s-end
slice_bounds-s-end c = room c

pub slice_bounds-store_chain-end : goal.slice_bounds-store_chain-end
slice_bounds-store_chain-end c = sym (length-take-le _ _ (room (goal.at.slice_bounds-store_chain-end c).After-chain_bytes-size))

pub store_chain-requires : goal.store_chain-requires
store_chain-requires c = (
  c.requires.0,
  words-chain _ _ c.requires.1 c.final_words.ensures,
  length-take-le _ _ (room (goal.at.store_chain-requires c).After-chain_bytes-size) ∙ c.chain_bytes-size.ensures,
)

pub returns : goal.returns
returns c = front-is-final _ _ c.requires.1 c.final_words.ensures c.requires.0 c.store_chain.ensures _

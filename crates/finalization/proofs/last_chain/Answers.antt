use mathlib.Core.Path.{sym, ap, ◌∙◌}
use mathlib.Core.List.{List}
use Prim.Native.Nat.{ℕ}
use lib.Seq.{length-take-le}
use Rattle.lsh.specs.WordSize.{size_of}
use Rattle.lsh.specs.Block.{forwards}
use Rattle.lsh.specs.Padding.{blocks_of}
use Rattle.finalization.proofs.LastBlock.{short, long, last_block}
use Rattle.finalization.proofs.last_chain.Goals as goal

pub last_block-block-requires : goal.last_block-block-requires
last_block-block-requires c = short _ c.args.rest.now c.requires.2

pub slice_bounds-block-end : goal.slice_bounds-block-end
slice_bounds-block-end c = long _ c.args.rest.now c.requires.2 _ c.last_block-block.ensures c.block_bytes-size.ensures

pub slice_bounds-forward-end : goal.slice_bounds-forward-end
slice_bounds-forward-end c = sym (length-take-le _ _ (long _ c.args.rest.now c.requires.2 _ c.last_block-block.ensures c.block_bytes-size.ensures))

pub returns : goal.returns
returns c = c.forward.ensures.0
    ∙ ap (λ (s : List ℕ). forwards (size_of c.args.w) (blocks_of (size_of c.args.w) s) c.args.t)
    (last_block _ c.args.rest.now c.requires.2 _ c.last_block-block.ensures c.block_bytes-size.ensures)

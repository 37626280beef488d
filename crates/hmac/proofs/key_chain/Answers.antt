use mathlib.Core.Path.{◌≡◌, sym, ap, ◌∙◌}
use mathlib.Core.List.{List}
use Prim.Native.Nat.{ℕ}
use native.Mathlib.Omega.{arith}
use lib.ListN.{length}
use lib.Seq.{length-take-le}
use borrow.Author.Rules.{rules}
use Rattle.lsh.specs.WordSize.{size_of}
use Rattle.lsh.specs.Block.{forwards}
use Rattle.lsh.specs.Padding.{blocks_of}
use Rattle.limits.specs.Limits.{longest_block}
use Rattle.limits.proofs.Limits.{block-most}
use Rattle.tags.proofs.Keys.{xored-front}
use Rattle.hmac.proofs.key_chain.Goals as goal
use Rattle.hmac.proofs.key_chain.Goals.{After-xor_each-b, Start}

long : (z : Start) → length z.args.block ≡ longest_block
long z = search rules

-- a block fits into the array
pub slice_bounds-b-end : goal.slice_bounds-b-end
slice_bounds-b-end c = let long : length c.xor_each-b.result ≡ longest_block = search rules in
    omega (arith, c.block_bytes-size.ensures, block-most c.args.w)

pub slice_bounds-forward-end : goal.slice_bounds-forward-end
slice_bounds-forward-end c = sym (length-take-le _ _ (slice_bounds-b-end (goal.at.slice_bounds-forward-end c).After-xor_each-b))

pub returns : goal.returns
returns c = let z = (goal.at.returns c).Start in
    c.forward-run.ensures.0
    ∙ ap (λ (s : List ℕ). forwards (size_of z.args.w) (blocks_of (size_of z.args.w) s) z.args.opened)
    (xored-front z.args.w z.args.x z.args.block (long z) c.block_bytes-size.ensures c.xor_each-b.ensures)

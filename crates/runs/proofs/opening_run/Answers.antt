use mathlib.Core.Path.{◌≡◌, sym, ap, ◌∙◌, subst}
use mathlib.Core.Bool.{true}
use mathlib.Core.List.{List}
use Prim.Native.Nat.{ℕ}
use lib.ListN.{length, take, replicate, length-replicate}
use Rattle.lsh.specs.WordSize.{is_word_size, size_of, block_bytes}
use Rattle.lsh.specs.Block.{Chain, forwards}
use Rattle.lsh.specs.Opening.{opening}
use Rattle.lsh.specs.Padding.{blocks_of}
use Rattle.lsh.proofs.Opening.{first_chain, first-chain, opening-run}
use Rattle.limits.specs.Limits.{longest_block}
use Rattle.limits.proofs.Limits.{block-most}
use Rattle.lists.proofs.Zeros.{take-replicate}
use Rattle.runs.proofs.opening_run.Goals as goal

zeros : (w : ℕ) {k : ℕ} {s : List ℕ} → k ≡ block_bytes (size_of w) → s ≡ replicate longest_block 0 → take k s ≡ replicate (block_bytes (size_of w)) 0
zeros w size is = rw (size, is) (take-replicate (block_bytes (size_of w)) longest_block 0 (block-most w))

run_is : (w n : ℕ) {k : ℕ} {s t : List ℕ} → is_word_size w ≡ true → k ≡ block_bytes (size_of w) → s ≡ replicate longest_block 0 → t ≡ first_chain w n
    → forwards (size_of w) (blocks_of (size_of w) (take k s)) t ≡ opening (size_of w) n
run_is w n {k} {s} e size is first =
    ap (forwards (size_of w) (blocks_of (size_of w) (take k s))) first ∙ opening-run w n (take k s) e (zeros w size is)

pub slice_bounds-zeros-end : goal.slice_bounds-zeros-end
slice_bounds-zeros-end c = rw (c.block_bytes-size.ensures, c.zero_bytes-zeros.ensures) (block-most _)

pub slice_bounds-forward-end : goal.slice_bounds-forward-end
slice_bounds-forward-end c = c.block_bytes-size.ensures ∙ sym (ap length (zeros _ c.block_bytes-size.ensures c.zero_bytes-zeros.ensures) ∙ length-replicate _ 0)

pub forward-run-requires : goal.forward-run-requires
forward-run-requires c = (c.requires.0, subst (Chain (size_of c.args.w)) (sym c.first_chain.ensures) (first-chain _ _ c.requires.0 c.requires.1))

pub returns : goal.returns
returns c = c.forward-run.ensures.0 ∙ run_is _ _ c.requires.0 c.block_bytes-size.ensures c.zero_bytes-zeros.ensures c.first_chain.ensures

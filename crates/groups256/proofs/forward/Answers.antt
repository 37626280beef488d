use mathlib.Core.Path.{refl, ap, ◌∙◌}
use Prim.Native.Nat.{ℕ, ◌+◌}
use native.Mathlib.Omega.{arith}
use borrow.Author.Rules.{rules}
use Rattle.lsh.specs.WordSize.{lsh256, block_bytes}
use Rattle.loops.specs.Rows.{expanded_words}
use Rattle.loops.proofs.Runs.{length_part, run-forward-none, run-forward-more, run-forward-all}
use Rattle.groups256.proofs.forward.Goals as goal

pub loop-k-init : goal.loop-k-init
unfolding lsh256 block_bytes expanded_words
loop-k-init c = (run-forward-none lsh256 _ _ _ _, search rules, refl)

pub forward_block-next-requires : goal.forward_block-next-requires
unfolding lsh256 block_bytes expanded_words
forward_block-next-requires c = (c.step_constants-sc.ensures, c.powers-pw.ensures, c.loop-k.invariant.1, c.requires.1, length_part lsh256 c.args.s.now c.loop-k.k (omega arith))

pub loop-k-preserved : goal.loop-k-preserved
unfolding lsh256 block_bytes expanded_words
loop-k-preserved c = (run-forward-more _ c.loop-k.invariant.0 c.loop-k-test.true c.forward_block-next.ensures, c.forward_block-next.auto.m ∙ c.loop-k.invariant.1, ap (λ (n : ℕ). n + 1) c.loop-k.invariant.2)

pub returns : goal.returns
unfolding lsh256 block_bytes expanded_words
returns c = let all = run-forward-all c.loop-k.invariant.0 c.loop-k-test.false in (all.0, c.loop-k.invariant.2 ∙ all.1)

use mathlib.Core.Path.{◌∙◌}
use Prim.Native.Nat.{◌-◌}
use native.Mathlib.Omega.{arith}
use borrow.Author.Rules.{rules}
use Rattle.lsh.specs.WordSize.{lsh256, block_bytes}
use Rattle.loops.specs.Rows.{expanded_words}
use Rattle.loops.proofs.Runs.{length_part, run-backward-none, run-backward-more, run-backward-all}
use Rattle.groups256.proofs.backward.Goals as goal

pub loop-k-init : goal.loop-k-init
unfolding lsh256 block_bytes expanded_words
loop-k-init c = (run-backward-none lsh256 _ _ _ _, search rules)

pub backward_block-before-requires : goal.backward_block-before-requires
unfolding lsh256 block_bytes expanded_words
backward_block-before-requires c = (c.step_constants-sc.ensures, c.back_powers-pw.ensures, c.loop-k.invariant.1, c.requires.0, c.requires.1, length_part lsh256 c.args.s.now (c.loop-k.k - 1) (omega arith))

pub loop-k-preserved : goal.loop-k-preserved
unfolding lsh256 block_bytes expanded_words
loop-k-preserved c = (run-backward-more _ c.loop-k.invariant.0 c.loop-k-test.true c.backward_block-before.ensures, c.backward_block-before.auto.m ∙ c.loop-k.invariant.1)

pub returns : goal.returns
unfolding lsh256 block_bytes expanded_words
returns c = run-backward-all c.loop-k.invariant.0 c.loop-k-test.false

pub overflow_add-e : goal.overflow_add-e
unfolding lsh256 block_bytes expanded_words
overflow_add-e c = omega arith

pub overflow_mul-a : goal.overflow_mul-a
unfolding lsh256 block_bytes expanded_words
overflow_mul-a c = omega arith

use mathlib.Core.Path.{refl}
use mathlib.Core.Logic.{inl}
use native.Mathlib.Omega.{arith}
use borrow.Author.Rules.{rules}
use Rattle.lsh.specs.WordSize.{lsh256, block_bytes}
use Rattle.loops.specs.Rows.{expanded_words}
use Rattle.loops.proofs.Runs.{run-backward-none, run-backward-more, run-backward-all}
use Rattle.loops.proofs.Halves.{half-kept, other_half}
use Rattle.ahead256.proofs.backward.Goals as goal

pub load_before-requires : goal.load_before-requires
unfolding lsh256 block_bytes expanded_words
load_before-requires c = (search rules, omega arith)

pub loop-left-init : goal.loop-left-init
unfolding lsh256 block_bytes expanded_words
loop-left-init c = (run-backward-none lsh256 _ _ _ _, λ some. c.expand.ensures _ (c.load_before.ensures.1 some), inl refl, omega arith, search rules)

pub loop-left-preserved : goal.loop-left-preserved
unfolding lsh256 block_bytes expanded_words
loop-left-preserved c = (
  run-backward-more _ c.loop-left.invariant.0 c.loop-left-test.true (c.backward_block-before.ensures.0 _ (half-kept c.loop-left.invariant.2 refl (omega (arith, c.requires.1)) (c.loop-left.invariant.1 c.loop-left-test.true) c.load_before-in-loop-left.ensures.0)),
  λ some. c.backward_block-before.ensures.1 _ (c.load_before-in-loop-left.ensures.1 some),
  other_half c.loop-left.invariant.2 refl,
  omega arith,
  search rules,
)

pub returns : goal.returns
unfolding lsh256 block_bytes expanded_words
returns c = run-backward-all c.loop-left.invariant.0 c.loop-left-test.false

pub backward_block-before-requires : goal.backward_block-before-requires
unfolding lsh256 block_bytes expanded_words
backward_block-before-requires c = search rules

pub expand-requires : goal.expand-requires
unfolding lsh256 block_bytes expanded_words
expand-requires c = search rules

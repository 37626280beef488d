use mathlib.Core.Path.{ap, ◌∙◌, subst}
use mathlib.Core.List.{List}
use Prim.Native.Nat.{ℕ, ◌-◌, ◌/◌, ◌≤◌, ◌<◌}
use native.Mathlib.Omega.{arith}
use borrow.Author.Rules.{rules}
use lib.ListN.{length}
use Rattle.lsh.specs.Bytes.{words_of}
use Rattle.lsh.specs.Block.{backward_steps}
use Rattle.loops.proofs.Runs.{RunBackward, run-backward-none, run-backward-more, run-backward-all}
use Rattle.word.proofs.Sizes.{sized, block-inside}
use Rattle.words.proofs.Blocks.{part-is, length-part}
use Rattle.words.proofs.backward.Goals as goal

pub nonzero_div-n : goal.nonzero_div-n
nonzero_div-n g c = rw (c.BLOCK-block.ensures ∙ g.met.W.Word.block_is) (sized g.met.W.Word.is_size).block-some

pub loop-k-init : goal.loop-k-init
loop-k-init g c = (subst (λ (n : ℕ). RunBackward g.W.Word.size c.args.steps (length c.args.s.now / n) c.args.s.now (g.W.Word.numbers c.args.t) (g.W.Word.numbers c.args.t) 0 (length c.args.s.now / c.BLOCK-block.result)) (c.BLOCK-block.ensures ∙ g.met.W.Word.block_is) (run-backward-none g.W.Word.size _ _ _ _), c.requires.1)

pub overflow_mul-a : goal.overflow_mul-a
overflow_mul-a g c = let lt : c.loop-k.k - 1 < length c.args.s.now / c.BLOCK-block.result = omega (arith, c.loop-k-test.true, c.loop-k.auto.k) in search (arith, block-inside c.BLOCK-block.result lt)

pub overflow_add-e : goal.overflow_add-e
overflow_add-e g c = let lt : c.loop-k.k - 1 < length c.args.s.now / c.BLOCK-block.result = omega (arith, c.loop-k-test.true, c.loop-k.auto.k) in search (arith, block-inside c.BLOCK-block.result lt)

pub backward_block-before-requires : goal.backward_block-before-requires
backward_block-before-requires g c = (search rules, (c.write_constants.ensures, c.loop-k.invariant.1, c.requires.2, c.requires.3, length-part g.W.Word.size (c.BLOCK-block.ensures ∙ g.met.W.Word.block_is) c.args.s.now (c.loop-k.k - 1) (omega (arith, c.loop-k-test.true, c.loop-k.auto.k))))

pub loop-k-preserved : goal.loop-k-preserved
loop-k-preserved g c = (run-backward-more _ c.loop-k.invariant.0 c.loop-k-test.true (c.backward_block-before.ensures ∙ ap (λ (p : List ℕ). backward_steps g.W.Word.size c.args.steps (words_of g.W.Word.size 32 p) (g.W.Word.numbers c.loop-k.c)) (part-is g.W.Word.size (c.BLOCK-block.ensures ∙ g.met.W.Word.block_is) c.args.s.now (c.loop-k.k - 1))), c.backward_block-before.auto.m ∙ c.loop-k.invariant.1)

pub returns : goal.returns
returns g c = run-backward-all c.loop-k.invariant.0 (omega (arith, c.loop-k-test.false))

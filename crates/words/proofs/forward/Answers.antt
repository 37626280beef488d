use mathlib.Core.Path.{refl, ap, ◌∙◌, subst}
use mathlib.Core.List.{List}
use Prim.Native.Nat.{ℕ, ◌+◌, ◌/◌, ◌≤◌, ◌<◌}
use native.Mathlib.Omega.{arith}
use borrow.Author.Rules.{rules}
use lib.ListN.{length}
use Rattle.lsh.specs.Bytes.{words_of}
use Rattle.lsh.specs.Block.{forward_steps}
use Rattle.loops.proofs.Runs.{run-forward-none, run-forward-more, run-forward-all}
use Rattle.word.proofs.Sizes.{sized, block-inside}
use Rattle.words.proofs.Blocks.{part-is, length-part}
use Rattle.words.proofs.forward.Goals as goal

pub nonzero_div-n : goal.nonzero_div-n
nonzero_div-n g c = rw (c.BLOCK-block.ensures ∙ g.met.W.Word.block_is) (sized g.met.W.Word.is_size).block-some

pub loop-k-init : goal.loop-k-init
loop-k-init g c = (run-forward-none g.W.Word.size _ _ _ _, c.requires.1, refl)

pub overflow_mul-a : goal.overflow_mul-a
overflow_mul-a g c = search (arith, block-inside c.BLOCK-block.result c.loop-k-test.true)

pub overflow_add-e : goal.overflow_add-e
overflow_add-e g c = search (arith, block-inside c.BLOCK-block.result c.loop-k-test.true)

pub forward_block-next-requires : goal.forward_block-next-requires
forward_block-next-requires g c = (search rules, (c.write_constants.ensures, c.loop-k.invariant.1, c.requires.2, c.requires.3, length-part g.W.Word.size (c.BLOCK-block.ensures ∙ g.met.W.Word.block_is) c.args.s.now c.loop-k.k c.loop-k-test.true))

pub loop-k-preserved : goal.loop-k-preserved
loop-k-preserved g c = (run-forward-more _ c.loop-k.invariant.0 (subst (λ (n : ℕ). c.loop-k.k < length c.args.s.now / n) (c.BLOCK-block.ensures ∙ g.met.W.Word.block_is) c.loop-k-test.true) (c.forward_block-next.ensures ∙ ap (λ (p : List ℕ). forward_steps g.W.Word.size c.args.steps (words_of g.W.Word.size 32 p) (g.W.Word.numbers c.loop-k.c)) (part-is g.W.Word.size (c.BLOCK-block.ensures ∙ g.met.W.Word.block_is) c.args.s.now c.loop-k.k)), c.forward_block-next.auto.m ∙ c.loop-k.invariant.1, ap (λ (n : ℕ). n + 1) c.loop-k.invariant.2)

pub returns : goal.returns
returns g c =
    let b = c.BLOCK-block.ensures ∙ g.met.W.Word.block_is in
    let all = run-forward-all c.loop-k.invariant.0 (subst (λ (n : ℕ). length c.args.s.now / n ≤ c.loop-k.k) b c.loop-k-test.false) in
    (all.0, c.loop-k.invariant.2 ∙ all.1)

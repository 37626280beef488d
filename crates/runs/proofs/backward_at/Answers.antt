-- `runs::backward_at` meets its contract by either engine. Assumes nothing.
use mathlib.Core.Path.{ap, ◌∙◌}
use Prim.Native.Nat.{ℕ}
use native.Mathlib.Omega.{arith}
use borrow.Author.Rules.{rules}
use Rattle.lsh.specs.Block.{backwards_steps, backwards}
use Rattle.lsh.specs.Padding.{blocks_of}
use Rattle.word.proofs.Sizes.{sized}
use Rattle.runs.proofs.backward_at.Goals as goal

pub words_backward-requires : goal.words_backward-requires
words_backward-requires g c = let w = g.met.W.Word in (search rules, (search rules, (omega (arith, c.STEPS.ensures, w.steps_is, (sized w.is_size).some), omega (arith, c.STEPS.ensures, w.steps_is))))

pub groups_backward-requires : goal.groups_backward-requires
groups_backward-requires g c = let w = g.met.W.Word in (search rules, (search rules, (omega (arith, c.STEPS-in-Groups.ensures, w.steps_is, (sized w.is_size).some), omega (arith, c.STEPS-in-Groups.ensures, w.steps_is))))

pub returns-in-Words : goal.returns-in-Words
unfolding backwards
returns-in-Words g c =
    let z = g.W.Word.size in
    (c.words_backward.ensures.0 ∙ ap (λ (k : ℕ). backwards_steps z k (blocks_of z c.args.s.now) (g.W.Word.numbers c.args.t)) (c.STEPS.ensures ∙ g.met.W.Word.steps_is), c.words_backward.ensures.1)

pub returns-in-Groups : goal.returns-in-Groups
unfolding backwards
returns-in-Groups g c =
    let z = g.W.Word.size in
    (c.groups_backward.ensures.0 ∙ ap (λ (k : ℕ). backwards_steps z k (blocks_of z c.args.s.now) (g.W.Word.numbers c.args.t)) (c.STEPS-in-Groups.ensures ∙ g.met.W.Word.steps_is), c.groups_backward.ensures.1)

-- `runs::forward_at` meets its contract by either engine. Assumes nothing.
use mathlib.Core.Path.{ap, ◌∙◌}
use Prim.Native.Nat.{ℕ}
use native.Mathlib.Omega.{arith}
use borrow.Author.Rules.{rules}
use Rattle.lsh.specs.Block.{forwards_steps, forwards}
use Rattle.lsh.specs.Padding.{blocks_of}
use Rattle.word.proofs.Sizes.{sized}
use Rattle.runs.proofs.forward_at.Goals as goal

pub words_forward-requires : goal.words_forward-requires
words_forward-requires g c = let w = g.met.W.Word in (search rules, (search rules, (omega (arith, c.STEPS.ensures, w.steps_is, (sized w.is_size).some), omega (arith, c.STEPS.ensures, w.steps_is))))

pub groups_forward-requires : goal.groups_forward-requires
groups_forward-requires g c = let w = g.met.W.Word in (search rules, (search rules, (omega (arith, c.STEPS-in-Groups.ensures, w.steps_is, (sized w.is_size).some), omega (arith, c.STEPS-in-Groups.ensures, w.steps_is))))

pub returns-in-Words : goal.returns-in-Words
unfolding forwards
returns-in-Words g c =
    let z = g.W.Word.size in
    (c.words_forward.ensures.0 ∙ ap (λ (k : ℕ). forwards_steps z k (blocks_of z c.args.s.now) (g.W.Word.numbers c.args.t)) (c.STEPS.ensures ∙ g.met.W.Word.steps_is), c.words_forward.ensures.1)

pub returns-in-Groups : goal.returns-in-Groups
unfolding forwards
returns-in-Groups g c =
    let z = g.W.Word.size in
    (c.groups_forward.ensures.0 ∙ ap (λ (k : ℕ). forwards_steps z k (blocks_of z c.args.s.now) (g.W.Word.numbers c.args.t)) (c.STEPS-in-Groups.ensures ∙ g.met.W.Word.steps_is), c.groups_forward.ensures.1)

use mathlib.Core.Path.{refl, ◌∙◌}
use native.Mathlib.Omega.{arith}
use borrow.Author.Rules.{rules}
use Rattle.lsh.proofs.Bytes.{length-words}
use Rattle.loops.specs.Rows.{expanded_words}
use Rattle.loops.proofs.Rows.{expanded-stored}
use Rattle.loops.proofs.Turns.{run-to}
use Rattle.word.proofs.Stores.{length_numbers}
use Rattle.words.proofs.forward_block.Goals as goal

pub load_block-requires : goal.load_block-requires
unfolding expanded_words
load_block-requires g c = (omega (arith, c.requires.1, c.requires.2, c.requires.3), c.requires.4)

pub sub_message-before-requires : goal.sub_message-before-requires
unfolding expanded_words
sub_message-before-requires g c = (search rules, omega (arith, c.load_block.auto.m, c.requires.1, c.requires.2, c.requires.3))

pub sub_message-last-requires : goal.sub_message-last-requires
unfolding expanded_words
sub_message-last-requires g c = (search rules, omega (arith, c.load_block.auto.m, c.requires.1, c.requires.2, c.requires.3))

pub expand-requires : goal.expand-requires
expand-requires g c = (search rules, (c.load_block.auto.m ∙ c.requires.1, c.requires.2, c.requires.3, c.sub_message-last.ensures, c.sub_message-before.ensures))

pub returns-then-steps-STEPS : goal.returns-then-steps-STEPS
unfolding expanded_words
returns-then-steps-STEPS g c =
    let w = g.W.Word in
    run-to (expanded-stored _ _ (length-words w.size 32 _) (omega (arith, c.requires.2, c.requires.3, length_numbers g.met.W.Word.takes_each c.args.m.now c.requires.1)) c.load_block.ensures c.expand.ensures)
    (c.if-steps-STEPS.true ∙ c.STEPS.ensures ∙ g.met.W.Word.steps_is) _ c.all_steps.ensures

pub returns : goal.returns
unfolding expanded_words
returns g c =
    let w = g.W.Word in
    run-to (expanded-stored _ _ (length-words w.size 32 _) (omega (arith, c.requires.2, c.requires.3, length_numbers g.met.W.Word.takes_each c.args.m.now c.requires.1)) c.load_block.ensures c.expand.ensures)
    refl _ c.some_steps.ensures

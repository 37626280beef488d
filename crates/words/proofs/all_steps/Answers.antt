use mathlib.Core.Path.{ap, ◌∙◌}
use native.Mathlib.Omega.{arith}
use borrow.Author.Rules.{rules}
use Rattle.loops.specs.Rows.{expanded_words, row}
use Rattle.loops.proofs.Turns.{stepped-none, stepped-two, stepped-all}
use Rattle.word.proofs.Sizes.{sized}
use Rattle.words.proofs.all_steps.Goals as goal

pub loop-k-init : goal.loop-k-init
loop-k-init g c = (stepped-none g.W.Word.size _ _ _, omega arith)

pub two_steps-u-requires : goal.two_steps-u-requires
two_steps-u-requires g c = (search rules, (c.requires.0, c.requires.1, omega (arith, c.STEPS-k-end.ensures, g.met.W.Word.steps_is, (sized g.met.W.Word.is_size).even)))

pub loop-k-preserved : goal.loop-k-preserved
loop-k-preserved g c = (stepped-two _ c.loop-k.invariant.0 (omega (arith, c.STEPS-k-end.ensures, g.met.W.Word.steps_is, (sized g.met.W.Word.is_size).even)) c.two_steps-u.ensures, omega (arith, c.STEPS-k-end.ensures, g.met.W.Word.steps_is, (sized g.met.W.Word.is_size).even))

pub sub_message-requires : goal.sub_message-requires
unfolding expanded_words
sub_message-requires g c = (search rules, omega (arith, c.requires.1, c.STEPS.ensures, g.met.W.Word.steps_is))

pub returns : goal.returns
returns g c =
    let w = g.met.W.Word in
    stepped-all c.loop-k.invariant.0 (omega (arith, c.STEPS-k-end.ensures, g.met.W.Word.steps_is, (sized g.met.W.Word.is_size).even)) (c.sub_message.ensures ∙ ap (row (g.W.Word.numbers c.args.m.now)) (c.STEPS.ensures ∙ w.steps_is)) c.add_message.ensures

use mathlib.Core.Path.{ap, ◌∙◌}
use native.Mathlib.Omega.{arith}
use borrow.Author.Rules.{rules}
use Rattle.loops.specs.Rows.{expanded_words, row}
use Rattle.loops.proofs.Turns.{unstepped-none, unstepped-is, unstepped-two}
use Rattle.word.proofs.Sizes.{sized}
use Rattle.words.proofs.all_unsteps.Goals as goal

pub sub_message-requires : goal.sub_message-requires
unfolding expanded_words
sub_message-requires g c = (search rules, omega (arith, c.requires.1, c.STEPS.ensures, g.met.W.Word.steps_is))

pub loop-k-init : goal.loop-k-init
loop-k-init g c = (λ t h. h, omega arith)

pub two_unsteps-u-requires : goal.two_unsteps-u-requires
two_unsteps-u-requires g c = (search rules, (c.requires.0, c.requires.1, omega (arith, c.STEPS-k.ensures, g.met.W.Word.steps_is, (sized g.met.W.Word.is_size).even, c.loop-k.auto.k)))

pub loop-k-preserved : goal.loop-k-preserved
loop-k-preserved g c = (λ t h. unstepped-two _ (c.loop-k.invariant.0 t h) c.loop-k-test.true (omega (arith, c.STEPS-k.ensures, g.met.W.Word.steps_is, (sized g.met.W.Word.is_size).even, c.loop-k.auto.k)) c.two_unsteps-u.ensures, omega arith)

pub returns : goal.returns
returns g c =
    let w = g.met.W.Word in
    let n = g.W.Word.numbers in
    let begun = unstepped-none (n c.args.t) (c.sub_message.ensures ∙ ap (row (n c.args.m.now)) (c.STEPS.ensures ∙ w.steps_is)) c.add_message-r.ensures in
    unstepped-is (c.loop-k.invariant.0 (n c.args.t) (unstepped-is begun (omega (arith, c.STEPS-k.ensures, w.steps_is, (sized w.is_size).even)))) (omega (arith, c.loop-k-test.false))

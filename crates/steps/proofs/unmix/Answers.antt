use mathlib.Core.Path.{◌∙◌}
use native.Mathlib.Omega.{arith}
use Prim.Native.Nat.{◌+◌}
use Rattle.lsh.specs.Step.{unmix}
use Rattle.loops.proofs.Lanes.{laned-none, laned-all}
use Rattle.word.proofs.Sizes.{sized}
use Rattle.word.proofs.Stores.{laned_word, length_numbers}
use Rattle.steps.proofs.Amounts.{alpha_is, beta_is, gamma_is, unmixed_word}
use Rattle.steps.proofs.unmix.Goals as goal

pub loop-l-init : goal.loop-l-init
loop-l-init g c = laned-none _ _ (length_numbers g.met.W.Word.takes_each _ (omega arith))

pub unmix_lane-p-requires : goal.unmix_lane-p-requires
unmix_lane-p-requires g c =
    let w = g.met.W.Word in
    let amounts = (sized w.is_size).amounts in
    (rw (alpha_is g.W.Word.size (c.ALPHAS.ensures ∙ w.alphas_is) c.args.j) (amounts.α c.args.j), rw (beta_is g.W.Word.size (c.BETAS.ensures ∙ w.betas_is) c.args.j) (amounts.β c.args.j), rw (gamma_is g.W.Word.size (c.GAMMAS-gamma.ensures ∙ w.gammas_is) c.loop-l.l) (amounts.γ c.loop-l.l))

pub loop-l-preserved : goal.loop-l-preserved
loop-l-preserved g c =
    let w = g.met.W.Word in
    let h = w.takes_each in
    laned_word h _ _ c.loop-l.invariant c.loop-l-test.true
    (unmixed_word g.W.Word.size c.args.j c.loop-l.l (g.W.Word.numbers c.args.t) (alpha_is g.W.Word.size (c.ALPHAS.ensures ∙ w.alphas_is) c.args.j) (beta_is g.W.Word.size (c.BETAS.ensures ∙ w.betas_is) c.args.j) (gamma_is g.W.Word.size (c.GAMMAS-gamma.ensures ∙ w.gammas_is) c.loop-l.l) c.step_constant.ensures
    (h.word c.args.t c.loop-l.l _ (omega arith)) (h.word c.args.t (c.loop-l.l + 8) _ (omega arith)) c.unmix_lane-p.ensures)

pub returns : goal.returns
unfolding unmix
returns g c = laned-all c.loop-l.invariant c.loop-l-test.false

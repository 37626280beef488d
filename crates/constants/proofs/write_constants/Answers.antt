use native.Mathlib.Omega.{arith}
use Rattle.loops.proofs.Constants.{worked-none, worked-more, worked-all}
use Rattle.word.proofs.Stores.{length_numbers}
use Rattle.constants.proofs.write_constants.Goals as goal

pub loop-j-init : goal.loop-j-init
loop-j-init g c = worked-none g.W.Word.size _ _ (length_numbers g.met.W.Word.takes_each c.args.first (omega arith)) c.requires.1

pub overflow_mul-j : goal.overflow_mul-j
overflow_mul-j g c = omega (arith, c.STEPS-j-end.ensures, g.met.W.Word.steps_is)

pub put-requires : goal.put-requires
put-requires g c = omega (arith, c.STEPS-j-end.ensures, g.met.W.Word.steps_is, c.loop-j.auto.sc, c.requires.0)

pub loop-j-preserved : goal.loop-j-preserved
loop-j-preserved g c =
    let w = g.met.W.Word in
    worked-more _ _ c.loop-j.invariant (omega (arith, c.STEPS-j-end.ensures, w.steps_is)) (length_numbers w.takes_each _ c.requires.0) c.put.ensures c.next_row-q.ensures

pub returns : goal.returns
returns g c =
    let w = g.met.W.Word in
    worked-all c.loop-j.invariant (omega (arith, c.STEPS-j-end.ensures, w.steps_is)) (length_numbers w.takes_each _ c.requires.0)

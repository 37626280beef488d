use mathlib.Core.Path.{ap, ◌∙◌}
use Prim.Native.Nat.{◌+◌}
use native.Mathlib.Omega.{arith}
use lib.ListN.{length-replicate}
use Rattle.lsh.specs.Tabulate.{at}
use Rattle.loops.proofs.Places.{placed-none, filled-all}
use Rattle.word.proofs.Stores.{filled_word, length_numbers}
use Rattle.word.proofs.part.Goals as goal

pub loop-l-init : goal.loop-l-init
loop-l-init g c = placed-none _ _ _ _

pub loop-l-preserved : goal.loop-l-preserved
loop-l-preserved g c =
    let h = g.met.W.Word.takes_each in
    filled_word h {f = λ k. at (g.W.Word.numbers c.args.m.now) (c.args.a + k)} _ c.loop-l.invariant c.loop-l-test.true (omega (arith, c.loop-l.invariant.len, h.len c.loop-l.r))
    (ap g.W.Word.number c.index-m-a.is ∙ h.word c.args.m.now (c.args.a + c.loop-l.l) _ (omega (arith, c.requires)))

pub returns : goal.returns
returns g c = filled-all c.loop-l.invariant c.loop-l-test.false (length_numbers g.met.W.Word.takes_each _ (length-replicate _ _))

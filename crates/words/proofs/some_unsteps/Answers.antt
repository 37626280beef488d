use native.Mathlib.Omega.{arith}
use borrow.Author.Rules.{rules}
use Rattle.loops.proofs.Turns.{unstepped-is, unstepped-two}
use Rattle.words.proofs.some_unsteps.Goals as goal

pub loop-k-init : goal.loop-k-init
loop-k-init g c = (λ t h. h, omega arith)

pub two_unsteps-u-requires : goal.two_unsteps-u-requires
two_unsteps-u-requires g c = (search rules, (c.requires.0, c.requires.1, omega (arith, c.requires.2, c.loop-k.invariant.1)))

pub loop-k-preserved : goal.loop-k-preserved
loop-k-preserved g c = (λ t h. unstepped-two _ (c.loop-k.invariant.0 t h) c.loop-k-test.true (omega (arith, c.loop-k.invariant.1)) c.two_unsteps-u.ensures, omega arith)

pub returns : goal.returns
returns g c = unstepped-is (c.loop-k.invariant.0 _ c.last_unstep-r.ensures) (omega arith)

-- `constants::write_constants` meets its contract: each constant is that of (14), for every step and lane. Assumes nothing.
use Rattle.loops.proofs.Constants.{WorkedOut}
use Rattle.constants.proofs.write_constants.Given as goal

abbrev pub invariant-loop-j : goal.invariant-loop-j
invariant-loop-j g l = let w = g.W.Word in WorkedOut w.size (w.numbers l.initial.sc) (w.numbers l.sc) (w.numbers l.p) l.j

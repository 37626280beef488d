use Prim.Native.Nat.{◌+◌, ◌-◌}
use Rattle.lsh.specs.Tabulate.{at}
use Rattle.lsh.specs.Word.{xor}
use Rattle.loops.proofs.Places.{Placed}
use Rattle.finalization.proofs.final_words.Given as goal

abbrev pub invariant-loop-l : goal.invariant-loop-l
invariant-loop-l l = Placed 8 (λ k. k) (λ k. xor 64 (at l.t k) (at l.t (k + 8))) l.initial.r l.r l.l

abbrev pub decreases-loop-l : goal.decreases-loop-l
decreases-loop-l l = 8 - l.l

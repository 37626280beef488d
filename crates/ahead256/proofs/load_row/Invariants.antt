use Prim.Native.Nat.{◌+◌, ◌-◌, ◌*◌}
use Rattle.lsh.specs.Tabulate.{at}
use Rattle.lsh.specs.WordSize.{lsh256}
use Rattle.lsh.specs.Bytes.{words_of}
use Rattle.loops.proofs.Places.{Placed}
use Rattle.ahead256.proofs.load_row.Given as goal

abbrev pub invariant-loop-l : goal.invariant-loop-l
invariant-loop-l l = Placed 16 (λ k. k) (λ k. at (words_of lsh256 32 l.s) (l.i * 16 + k)) l.initial.r l.r l.l

abbrev pub decreases-loop-l : goal.decreases-loop-l
decreases-loop-l l = 16 - l.l

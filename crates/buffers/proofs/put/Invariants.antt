-- `buffers::put` meets its contract: before turn i the first i bytes of the part are written. Assumes nothing.
use Prim.Native.Nat.{◌+◌}
use lib.ListN.{length}
use Rattle.lsh.specs.Tabulate.{at}
use Rattle.loops.proofs.Places.{Placed}
use Rattle.buffers.proofs.put.Given as goal

abbrev pub invariant-loop-i : goal.invariant-loop-i
invariant-loop-i l = Placed (length l.part) (λ k. l.from + k) (at l.part) l.initial.output l.output l.i

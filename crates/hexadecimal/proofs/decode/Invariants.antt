-- `hexadecimal::decode` meets its contract: before turn i the first i bytes are written. Assumes nothing.
use Prim.Native.Nat.{◌/◌}
use lib.ListN.{length}
use Rattle.loops.proofs.Places.{Placed}
use Rattle.hexadecimal.specs.Hex.{byte_of}
use Rattle.hexadecimal.proofs.decode.Given as goal

abbrev pub invariant-loop-i : goal.invariant-loop-i
invariant-loop-i l = Placed (length l.word / 2) (λ k. k) (byte_of l.word) l.initial.output l.output l.i

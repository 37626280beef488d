-- `text::put_digits` meets its contract: before turn i the digits of the first i bytes are written. Assumes nothing.
use Prim.Native.Nat.{◌+◌, ◌*◌}
use lib.ListN.{length}
use Rattle.loops.proofs.Places.{Placed}
use Rattle.text.specs.Printed.{digit_at}
use Rattle.text.proofs.put_digits.Given as goal

abbrev pub invariant-loop-i : goal.invariant-loop-i
invariant-loop-i l = Placed (2 * length l.bytes) (λ j. l.from + j) (digit_at l.bytes) l.initial.output l.output (2 * l.i)

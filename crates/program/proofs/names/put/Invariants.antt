-- `program::names::put` meets its contract. Assumes nothing.
use Rattle.std.proofs.Common.{length, ◌+◌, ◌*◌, ◌≤◌, ◌≡◌}
use Rattle.program.proofs.names.put.Given as goal

abbrev pub invariant-loop-c : goal.invariant-loop-c
invariant-loop-c l = (l.from ≤ l.at) × (l.at ≤ l.from + 2 * l.c-index) × (length l.output ≡ length l.initial.output)

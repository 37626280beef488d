-- `program::names::read` meets its contract. Assumes nothing.
use Rattle.std.proofs.Common.{length, ◌≤◌, ◌≡◌}
use Rattle.program.proofs.names.read.Given as goal

abbrev pub invariant-loop-c : goal.invariant-loop-c
invariant-loop-c l = (l.size ≤ l.c-index) × (length l.output ≡ length l.initial.output)

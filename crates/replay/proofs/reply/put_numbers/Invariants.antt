-- `replay::reply::put_numbers` is safe and ends, and says how far it comes. Assumes nothing.
use Rattle.std.proofs.Common.{◌+◌, ◌*◌, ◌≤◌, length, ◌≡◌}
use Rattle.decimal.specs.Number.{most_digits}
use Rattle.replay.proofs.reply.put_numbers.Given as goal

abbrev pub invariant-loop-x : goal.invariant-loop-x
invariant-loop-x l = (l.at ≤ l.from + (1 + most_digits) * l.x-index) × (length l.line ≡ length l.initial.line)

-- `replay::reply::put_chain` is safe and ends, and says how far it comes. Assumes nothing.
use Rattle.std.proofs.Common.{◌+◌, ◌*◌, ◌≤◌, length, ◌≡◌}
use Rattle.replay.proofs.reply.put_chain.Given as goal

-- A word has 16 digits, and `put_bytes` promises at most one place more.
abbrev pub invariant-loop-x : goal.invariant-loop-x
invariant-loop-x l = (l.at ≤ l.from + 1 + 17 * l.x-index) × (length l.line ≡ length l.initial.line)

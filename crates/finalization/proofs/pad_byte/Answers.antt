use mathlib.Core.Path.{ap}
use Prim.Native.Nat.{ℕ, ◌+◌}
use borrow.Author.Rules.{rules}
use Rattle.finalization.proofs.LastByte.{next_bit, next_fits}
use Rattle.finalization.proofs.pad_byte.Goals as goal

pub overflow_add-result : goal.overflow_add-result
overflow_add-result c = record { fits = rw (next_bit _ c.requires.0) (next_fits _ _ (search rules) c.requires.0 c.requires.1) }

pub returns : goal.returns
returns c = ap (λ (n : ℕ). c.args.last + n) (next_bit _ c.requires.0)

-- `same::is_well_formed` meets its contract: the tests before say that n is a digest length, and so at most the longest. Assumes nothing.
use native.Mathlib.Omega.{arith}
use Rattle.limits.proofs.Limits.{digest-longest}
use Rattle.same.proofs.is_well_formed.Goals as goal

pub is_unused_zero-requires : goal.is_unused_zero-requires
is_unused_zero-requires c = (c.requires, grind (arith, digest-longest))

pub is_zero_after-requires : goal.is_zero_after-requires
is_zero_after-requires c = (c.requires, grind (arith, digest-longest))

use mathlib.Core.Path.{◌≡◌}
use Prim.Native.Nat.{◌<◌}
use lib.ListN.{drop}
use Rattle.tally.specs.Checksum.{checksum_bound, checksum, checksum_after}
use Rattle.tally.proofs.sum_of.Given as goal

abbrev pub invariant-loop-x : goal.invariant-loop-x
invariant-loop-x l = (l.c < checksum_bound) × (checksum l.r ≡ checksum_after l.c (drop l.x-index l.r))

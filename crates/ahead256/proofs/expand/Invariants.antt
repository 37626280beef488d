use mathlib.Core.Path.{◌≡◌}
use mathlib.Core.List.{List}
use Prim.Native.Nat.{ℕ, ◌+◌, ◌-◌}
use lib.ListN.{length}
use Rattle.lsh.specs.WordSize.{lsh256}
use Rattle.loops.specs.Halves.{ExpandedFrom}
use Rattle.ahead256.proofs.expand.Given as goal

abbrev pub invariant-loop-j : goal.invariant-loop-j
invariant-loop-j l = ((b : List ℕ) → ExpandedFrom lsh256 b l.initial.m l.k 1 → ExpandedFrom lsh256 b l.m l.k (l.j + 1)) × (length l.m ≡ length l.initial.m)

abbrev pub decreases-loop-j : goal.decreases-loop-j
decreases-loop-j l = l.j-end - l.j

use mathlib.Core.Path.{◌≡◌}
use mathlib.Core.List.{List}
use Prim.Native.Nat.{ℕ, ◌+◌, ◌-◌, ◌%◌, ◌≤◌}
use lib.ListN.{length}
use Rattle.lsh.specs.WordSize.{lsh256}
use Rattle.loops.specs.Turns.{SteppedAhead}
use Rattle.groups256.proofs.odd_steps.Given as goal

abbrev pub invariant-loop-count : goal.invariant-loop-count
invariant-loop-count l = ((n u : List ℕ) → SteppedAhead lsh256 n l.initial.m l.j u l.initial.r → SteppedAhead lsh256 n l.m l.count u l.r) × (length l.m ≡ length l.initial.m) × (l.j ≤ l.count) × (l.count ≤ l.j + l.j % 2) × (l.count ≤ l.steps)

abbrev pub decreases-loop-count : goal.decreases-loop-count
decreases-loop-count l = l.steps - l.count

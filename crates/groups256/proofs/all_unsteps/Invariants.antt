use mathlib.Core.Path.{◌≡◌}
use mathlib.Core.List.{List}
use Prim.Native.Nat.{ℕ, ◌+◌, ◌≤◌}
use Rattle.lsh.specs.WordSize.{lsh256}
use Rattle.loops.specs.Turns.{RunBack}
use Rattle.mix256.specs.Amounts.{shifts}
use Rattle.groups256.proofs.all_unsteps.Given as goal

abbrev pub invariant-loop-j : goal.invariant-loop-j
invariant-loop-j l = ((t : List ℕ) → RunBack lsh256 l.m l.steps l.steps t l.initial.r → RunBack lsh256 l.m l.steps l.j t l.r) × (l.k ≡ shifts lsh256 (l.j + 1)) × (l.j ≤ l.steps)

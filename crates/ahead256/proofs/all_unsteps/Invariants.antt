use mathlib.Core.Path.{◌≡◌}
use mathlib.Core.List.{List}
use Prim.Native.Nat.{ℕ, ◌+◌, ◌-◌, ◌≤◌}
use Rattle.lsh.specs.WordSize.{lsh256}
use Rattle.lsh.specs.Block.{unsteps}
use Rattle.loops.specs.Halves.{ExpandedFrom, KeptBut}
use Rattle.mix256.specs.Amounts.{shifts}
use Rattle.ahead256.proofs.all_unsteps.Given as goal

abbrev pub invariant-loop-i : goal.invariant-loop-i
invariant-loop-i l = KeptBut l.initial.m l.m l.n 28
    × ((b : List ℕ) → ExpandedFrom lsh256 b l.initial.m l.k l.steps → unsteps lsh256 b (l.steps - l.i) l.r ≡ unsteps lsh256 b l.steps l.initial.r)
    × ((b : List ℕ) → ExpandedFrom lsh256 b l.initial.m l.n 1 → ExpandedFrom lsh256 b l.m l.n (l.i + 1))
    × (l.x ≡ shifts lsh256 (l.steps - l.i + 1))
    × (l.i ≤ l.steps)

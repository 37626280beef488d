use mathlib.Core.Path.{◌≡◌}
use mathlib.Core.Logic.{◌⊎◌}
use Prim.Native.Nat.{◌-◌, ◌/◌, ◌≤◌, ◌<◌}
use lib.ListN.{length}
use Rattle.lsh.specs.WordSize.{lsh256, block_bytes}
use Rattle.lsh.specs.Bytes.{words_of}
use Rattle.loops.specs.Halves.{ExpandedFrom}
use Rattle.loops.specs.Parts.{part}
use Rattle.loops.proofs.Runs.{RunBackward}
use Rattle.ahead256.proofs.backward.Given as goal

-- the blocks that are run, and the last one that is not, whose sub-messages stand from row k on
abbrev pub invariant-loop-left : goal.invariant-loop-left
invariant-loop-left l = RunBackward lsh256 l.steps (length l.s / block_bytes lsh256) l.s l.initial.c l.c l.count l.left
    × (0 < l.left → ExpandedFrom lsh256 (words_of lsh256 32 (part lsh256 l.s (l.left - 1))) l.m l.k l.steps)
    × ((l.k ≡ 0) ⊎ (l.k ≡ 28))
    × (l.k ≤ 28)
    × (length l.m ≡ 896)

use mathlib.Core.Path.{◌≡◌}
use Prim.Native.Nat.{◌+◌, ◌/◌}
use lib.ListN.{length}
use Rattle.lsh.specs.WordSize.{lsh256, block_bytes}
use Rattle.loops.specs.Rows.{expanded_words}
use Rattle.loops.proofs.Runs.{RunForward}
use Rattle.groups256.proofs.forward.Given as goal

abbrev pub invariant-loop-k : goal.invariant-loop-k
invariant-loop-k l = RunForward lsh256 l.steps (length l.s / block_bytes lsh256) l.s l.initial.c l.c l.k × (length l.m ≡ expanded_words lsh256 + 16) × (l.count ≡ l.k)

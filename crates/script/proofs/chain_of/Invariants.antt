-- `script::chain_of` meets its contract: before turn l the first l words are stored. Assumes nothing.
use Prim.Native.Nat.{◌*◌}
use Rattle.loops.proofs.Places.{Placed}
use Rattle.script.specs.Numbers.{highest_first}
use Rattle.script.proofs.chain_of.Given as goal

abbrev pub invariant-loop-l : goal.invariant-loop-l
invariant-loop-l l = Placed 16 (λ k. k) (λ k. highest_first 8 l.bytes (8 * k)) l.initial.chain l.chain l.l

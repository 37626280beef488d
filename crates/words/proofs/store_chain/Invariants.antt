use mathlib.Core.Path.{◌≡◌}
use lib.ListN.{length}
use Rattle.lsh.specs.WordSize.{word_bytes, chain_bytes}
use Rattle.loops.proofs.Words.{Stored}
use Rattle.words.proofs.store_chain.Given as goal

abbrev pub invariant-loop-l : goal.invariant-loop-l
invariant-loop-l g l = let w = g.W.Word in Stored (word_bytes w.size) (w.numbers l.t) l.d l.l × (length l.initial.d ≡ chain_bytes w.size)

-- `script::read_number` meets its contract: before each turn the digits passed are those of x. Assumes nothing.
use mathlib.Core.Path.{◌≡◌}
use Prim.Native.Nat.{◌^◌, ◌<◌}
use lib.ListN.{drop}
use Rattle.script.specs.Numbers.{word_number}
use Rattle.script.proofs.Reading.{number_after}
use Rattle.script.proofs.read_number.Given as goal

abbrev pub invariant-loop-c : goal.invariant-loop-c
invariant-loop-c l = (word_number l.word ≡ number_after l.x (drop l.c-index l.word)) × (l.x < 2 ^ 64)

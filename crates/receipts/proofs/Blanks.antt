-- Which receipts are blanks, of those that are written.
-- Assumes nothing.
use mathlib.Core.Path.{◌≡◌, ap}
use mathlib.Core.Bool.{Bool}
use mathlib.Core.List.{List}
use Prim.Native.Nat.{ℕ}
use lib.Dec.{eqb}
use Rattle.receipts.specs.Written.{Written}
use Rattle.receipts.specs.Kinds.{is_blank}

-- a receipt that Whole or Close writes is a blank if its message has no bits, and only then
pub written-blank : {w n bits : ℕ} {d : List Bool} {r : List ℕ} → Written w n d bits r → is_blank r ≡ eqb bits 0
unfolding is_blank
written-blank written = ap (λ (k : ℕ). eqb k 0) written.bit_length

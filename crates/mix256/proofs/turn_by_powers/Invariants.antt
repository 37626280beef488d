use mathlib.Core.Path.{◌≡◌}
use Prim.Native.Nat.{ℕ, ◌+◌, ◌-◌, ◌*◌, ◌%◌, ◌<◌}
use Rattle.lsh.specs.Tabulate.{at}
use Rattle.lsh.specs.Word.{rotate_left}
use Rattle.loops.proofs.Places.{Placed}
use Rattle.mix256.specs.Amounts.{powers}
use Rattle.mix256.proofs.turn_by_powers.Given as goal

abbrev pub invariant-loop-i : goal.invariant-loop-i
invariant-loop-i l = (f : ℕ → ℕ → ℕ) → ((m k : ℕ) → f m k < 32) → l.pw ≡ powers f → Placed 4 (λ k. k) (λ k. rotate_left 32 (f (l.j % 4) (4 * l.l + k)) (at l.a k)) l.initial.r l.r l.i

abbrev pub decreases-loop-i : goal.decreases-loop-i
decreases-loop-i l = 4 - l.i

-- The array of the step constants, as a run works it out: row by row, each from the row before it. SC_j[l] stands at j * 8 + l.
-- Assumes nothing.
use Rattle.std.specs.Prelude.{List, ℕ}
use Rattle.lsh.specs.Tabulate.{at, tabulate}
use Rattle.lsh.specs.Word.{add, rotate_left}
use Rattle.lsh.specs.WordSize.{WordSize}

-- a constant from the one of the same lane in the row before (14)
unfoldable pub next_constant : WordSize → ℕ → ℕ
next_constant z x = add z.bits x (rotate_left z.bits 8 x)

unfoldable pub next_row : WordSize → List ℕ → List ℕ
next_row z p = tabulate 8 (λ l. next_constant z (at p l))

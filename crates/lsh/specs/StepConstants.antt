-- The step constants.
-- Assumes nothing.
use Rattle.std.specs.Prelude.{List, ℕ, zero, suc, ◌*◌, ◌/◌, ◌%◌}
use Rattle.lsh.specs.Tabulate.{at, tabulate}
use Rattle.lsh.specs.Word.{add, rotate_left}
use Rattle.lsh.specs.WordSize.{WordSize}

-- SC_j[l] (14)
unfoldable pub constant : WordSize → ℕ → ℕ → ℕ
constant z zero l = at z.first_constants l
constant z (suc j) l = add z.bits (constant z j l) (rotate_left z.bits 8 (constant z j l))

-- all of them in one list, eight for each step: SC_j[l] stands at j * 8 + l
unfoldable pub constants : WordSize → List ℕ
constants z = tabulate (z.steps * 8) (λ k. constant z (k / 8) (k % 8))

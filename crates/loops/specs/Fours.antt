-- Four words of an array.
-- Assumes nothing.
use Rattle.std.specs.Prelude.{List, ℕ, ◌+◌}
use Rattle.lsh.specs.Tabulate.{at, tabulate}

-- from place a on
unfoldable pub four : List ℕ → ℕ → List ℕ
four m a = tabulate 4 (λ i. at m (a + i))

-- Lists of bytes.
-- Assumes nothing.
use Rattle.std.specs.Prelude.{List, ℕ, ◌<◌}
use Rattle.lsh.specs.Tabulate.{at}

-- each place is below 256 (a place past the end reads as 0)
abbrev pub Bytes : List ℕ → Type 0
Bytes s = (i : ℕ) → at s i < 256

pub record ByteString : Type 0 where
  pub list : List ℕ
  pub bytes : Bytes list

-- A byte string, and zeros after it until there are n bytes.
-- Assumes nothing.
use Rattle.std.specs.Prelude.{List, ◌++◌, ℕ, ◌-◌, length, replicate}

abbrev pub zero_filled : ℕ → List ℕ → List ℕ
zero_filled n s = s ++ replicate (n - length s) 0

-- Answers of tests that are made one after the other.
-- Assumes nothing.
use Rattle.std.specs.Prelude.{cond, ℕ, eqb}

-- the first of two answers that refuses
unfoldable pub first : ℕ → ℕ → ℕ
first a b = cond (eqb a 0) b a

-- What a call that answers and writes leaves in its output.
-- Assumes nothing.
use Rattle.std.specs.Prelude.{cond, List, ◌++◌, ℕ, eqb, drop}

-- by the answer: the first size bytes replaced by the front if it is 0, else each byte as it came
unfoldable pub written : ℕ → ℕ → List ℕ → List ℕ → List ℕ
written answer size front output = cond (eqb answer 0) (front ++ drop size output) output

-- The amounts of a step's rotations, as the code has them.
-- Assumes nothing.
use Rattle.std.specs.Prelude.{List, [], ◌∷◌, ℕ, ◌+◌, ◌-◌, ◌/◌, ◌%◌, ◌^◌}
use Rattle.lsh.specs.Tabulate.{tabulate}
use Rattle.lsh.specs.WordSize.{WordSize, alpha, beta, gamma}

-- step j: alpha to the left, and what is left of the width; beta to the left, and what is left of the width
unfoldable pub shifts : WordSize → ℕ → List ℕ
shifts z j = alpha z j ∷ (z.bits - alpha z j) ∷ beta z j ∷ (z.bits - beta z j) ∷ []

-- by beta and then by gamma of lane l: one rotation
unfoldable pub beta_gamma : WordSize → ℕ → ℕ → ℕ
beta_gamma z j l = (beta z j + gamma z l) % z.bits

-- a rotation by so much to the left is one by gamma to the right, in every step j
unfoldable pub remaining : WordSize → ℕ → ℕ → ℕ
remaining z j l = (z.bits - gamma z l) % z.bits

-- 2 to the amounts of steps 0 to 3, lanes 0 to 7 of each
unfoldable pub powers : (ℕ → ℕ → ℕ) → List ℕ
powers f = tabulate 32 (λ k. 2 ^ f (k / 8) (k % 8))

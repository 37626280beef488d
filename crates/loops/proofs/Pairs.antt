-- A pair of groups that is mixed word by word: each of its four lanes is one of the mix.
-- Assumes nothing.
use mathlib.Core.Path.{◌≡◌}
use mathlib.Core.List.{List, [], ◌∷◌}
use Prim.Native.Nat.{ℕ, ◌+◌, ◌*◌, ◌<◌}
use native.Mathlib.Omega.{arith}
use Rattle.lsh.specs.Tabulate.{at, tabulate, tabulate_from}
use Rattle.lsh.specs.WordSize.{WordSize, alpha, beta, gamma}
use Rattle.lsh.specs.StepConstants.{constant}
use Rattle.lsh.specs.Lane.{Lane, lane, mix_lane, unmix_lane}
use Rattle.lsh.proofs.Tabulate.{tabulate-all}
use Rattle.lsh.proofs.Figures.{Amounts}
use Rattle.groups.specs.Group.{group, each_word, wordwise}
use Rattle.groups.specs.GroupStep.{pair, mix_pair, unmix_pair}

-- the amounts of a group are below the bits of a word
pub gamma-below : {z : WordSize} {g : List ℕ} → Amounts z → (l : ℕ) → g ≡ group (gamma z) l → (i : ℕ) → at g i < z.bits
unfolding group
gamma-below {z} fit l e i =
    let some : gamma z 0 < z.bits = fit.γ 0 in
    rw e (tabulate-all (λ (a : ℕ). a < z.bits) 4 (λ k. gamma z (4 * l + k)) (omega arith) (λ k lt. fit.γ (4 * l + k)) i)

-- lanes 4l to 4l + 3 of step j, with group l of gamma and of the constants
module _ (z : WordSize) (j l : ℕ) {g c : List ℕ} (x y : List ℕ) (eg : g ≡ group (gamma z) l) (ec : c ≡ group (constant z j) l) {p q r s : Lane} where
  pub mixed-pair : p ≡ mix_lane z.bits (alpha z j) (beta z j) (at g 0) (at c 0) (lane (at x 0) (at y 0))
      → q ≡ mix_lane z.bits (alpha z j) (beta z j) (at g 1) (at c 1) (lane (at x 1) (at y 1))
      → r ≡ mix_lane z.bits (alpha z j) (beta z j) (at g 2) (at c 2) (lane (at x 2) (at y 2))
      → s ≡ mix_lane z.bits (alpha z j) (beta z j) (at g 3) (at c 3) (lane (at x 3) (at y 3))
      → pair (p.x ∷ q.x ∷ r.x ∷ s.x ∷ []) (p.y ∷ q.y ∷ r.y ∷ s.y ∷ []) ≡ mix_pair z j l (pair x y)
  unfolding mix_pair mix_lane each_word wordwise group tabulate tabulate_from
  mixed-pair ep eq er es = rw (ep, eq, er, es, eg, ec)

  pub unmixed-pair : p ≡ unmix_lane z.bits (alpha z j) (beta z j) (at g 0) (at c 0) (lane (at x 0) (at y 0))
      → q ≡ unmix_lane z.bits (alpha z j) (beta z j) (at g 1) (at c 1) (lane (at x 1) (at y 1))
      → r ≡ unmix_lane z.bits (alpha z j) (beta z j) (at g 2) (at c 2) (lane (at x 2) (at y 2))
      → s ≡ unmix_lane z.bits (alpha z j) (beta z j) (at g 3) (at c 3) (lane (at x 3) (at y 3))
      → pair (p.x ∷ q.x ∷ r.x ∷ s.x ∷ []) (p.y ∷ q.y ∷ r.y ∷ s.y ∷ []) ≡ unmix_pair z j l (pair x y)
  unfolding unmix_pair unmix_lane each_word wordwise group tabulate tabulate_from
  unmixed-pair ep eq er es = rw (ep, eq, er, es, eg, ec)

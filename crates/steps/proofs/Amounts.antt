-- A lane with the amounts and the words that the code has of it.
-- Assumes nothing.
use mathlib.Core.Path.{◌≡◌, ap, ◌∙◌}
use mathlib.Core.List.{List}
use Prim.Native.Nat.{ℕ, ◌+◌, ◌*◌, ◌%◌, ◌<◌}
use native.Mathlib.Omega.{arith}
use lib.ListN.{length}
use Rattle.lsh.specs.Tabulate.{at}
use Rattle.lsh.specs.WordSize.{WordSize, alpha, beta, gamma}
use Rattle.lsh.specs.StepConstants.{constant, constants}
use Rattle.lsh.specs.Lane.{Lane, lane, mix_lane, unmix_lane}
use Rattle.lsh.specs.Step.{mixed_lane, unmixed_lane}
use Rattle.lsh.proofs.Tabulate.{length-tabulate}
use Rattle.word.specs.Numbers.{TakesEach}

module _ (z : WordSize) {s : List ℕ} where
  pub alpha_is : s ≡ z.alphas → (j : ℕ) → at s (j % 2) ≡ alpha z j
  unfolding alpha
  alpha_is e j = ap (λ (x : List ℕ). at x (j % 2)) e

  pub beta_is : s ≡ z.betas → (j : ℕ) → at s (j % 2) ≡ beta z j
  unfolding beta
  beta_is e j = ap (λ (x : List ℕ). at x (j % 2)) e

  pub gamma_is : s ≡ z.gammas → (l : ℕ) → at s l ≡ gamma z l
  unfolding gamma
  gamma_is e l = ap (λ (x : List ℕ). at x l) e

module _ (z : WordSize) (j l : ℕ) (t : List ℕ) {a b g c x y : ℕ} {r : Lane} (ea : a ≡ alpha z j) (eb : b ≡ beta z j) (eg : g ≡ gamma z l)
    (ec : c ≡ constant z j l) (ex : x ≡ at t l) (ey : y ≡ at t (l + 8)) where
  pub mixed_word : r ≡ mix_lane z.bits a b g c (lane x y) → r ≡ mixed_lane z j t l
  unfolding mixed_lane
  mixed_word e = rw (ea, eb, eg, ec, ex, ey) at e

  pub unmixed_word : r ≡ unmix_lane z.bits a b g c (lane x y) → r ≡ unmixed_lane z j t l
  unfolding unmixed_lane
  unmixed_word e = rw (ea, eb, eg, ec, ex, ey) at e

-- a constant stands inside
pub constant_inside : {A : Type 0} {number : A → ℕ} {numbers : List A → List ℕ} → TakesEach number numbers → (z : WordSize) (sc : List A) → numbers sc ≡ constants z → {j l : ℕ}
    → j < z.steps → l < 8 → j * 8 + l < length sc
unfolding constants
constant_inside {numbers = numbers} h z sc e {j} {l} hj hl =
    let long : length (numbers sc) ≡ z.steps * 8 = ap length e ∙ length-tabulate (z.steps * 8) _ in
    omega (arith, h.len sc)

-- A step and its parts: each is undone by the same taken back, and undoes it, for every word size. What they give is a chain.
-- Assumes nothing.
use mathlib.Core.Path.{◌≡◌, ap, ap₂, ◌∙◌}
use mathlib.Core.List.{List}
use Prim.Native.Nat.{ℕ, ◌+◌, ◌^◌, ◌<◌}
use native.Mathlib.Nat.{le_of_lt}
use lib.ListN.{length}
use lib.Pow.{pow_pos}
use Rattle.lsh.specs.Tabulate.{at, tabulate}
use Rattle.lsh.specs.Word.{xor}
use Rattle.lsh.specs.WordSize.{WordSize, alpha, beta, gamma, sigma, place_of}
use Rattle.lsh.specs.StepConstants.{constant}
use Rattle.lsh.specs.Lane.{Lane, lane, mix_lane, unmix_lane}
use Rattle.lsh.specs.Step.{add_message, lane_at, lanes, mixed_lane, unmixed_lane, mix, unmix, permute, unpermute, step, unstep}
use Rattle.lsh.specs.Block.{Chain}
use Rattle.lsh.proofs.Word.{xor-xor, xor_lt}
use Rattle.lsh.proofs.Lane.{Below, mix-below, unmix-below, mix-unmix, unmix-mix}
use Rattle.lsh.proofs.Figures.{Amounts}
use Rattle.lsh.proofs.Permutation.{sigma-permutes}
use Rattle.lsh.proofs.Tabulate.{length-tabulate, at-tabulate, tabulate-ext, tabulate-all, length-lanes, lanes-x, lanes-y, lanes-ext, lanes_all}

pub tabulate-chain : (z : WordSize) (f : ℕ → ℕ) → ((k : ℕ) → k < 16 → f k < 2 ^ z.bits) → Chain z (tabulate 16 f)
tabulate-chain z f h =
    record { words = length-tabulate 16 f; below = tabulate-all (λ (n : ℕ). n < 2 ^ z.bits) 16 f (pow_pos z.bits) h }

-- message addition

pub added-chain : (z : WordSize) (t m : List ℕ) → Chain z (add_message z t m)
unfolding add_message
added-chain z t m = tabulate-chain z _ (λ k h. xor_lt z.bits (at t k) (at m k))

pub added_twice : (z : WordSize) (t m : List ℕ) → Chain z t → add_message z (add_message z t m) m ≡ t
unfolding add_message
added_twice z t m h =
    tabulate-ext 16 _ t h.words
    λ k lt.
    ap (λ (n : ℕ). xor z.bits n (at m k)) (at-tabulate 16 (λ l. xor z.bits (at t l) (at m l)) k lt)
    ∙ xor-xor z.bits (at t k) (at m k) (h.below k)

-- the permutation of words

pub permute-chain : (z : WordSize) (t : List ℕ) → Chain z t → Chain z (permute t)
unfolding permute
permute-chain z t h = tabulate-chain z _ (λ k lt. h.below (at sigma k))

pub unpermute-chain : (z : WordSize) (t : List ℕ) → Chain z t → Chain z (unpermute t)
unfolding unpermute
unpermute-chain z t h = tabulate-chain z _ (λ k lt. h.below (place_of k sigma))

pub unpermute-permute : (t : List ℕ) → length t ≡ 16 → unpermute (permute t) ≡ t
unfolding permute unpermute
unpermute-permute t e =
    tabulate-ext 16 _ t e
    λ k h.
    at-tabulate 16 (λ l. at t (at sigma l)) (place_of k sigma) (sigma-permutes.place_inside k h)
    ∙ ap (at t) (sigma-permutes.at_place k h)

pub permute-unpermute : (t : List ℕ) → length t ≡ 16 → permute (unpermute t) ≡ t
unfolding permute unpermute
permute-unpermute t e =
    tabulate-ext 16 _ t e
    λ k h.
    at-tabulate 16 (λ l. at t (place_of l sigma)) (at sigma k) (sigma-permutes.inside k)
    ∙ ap (at t) (sigma-permutes.place_at k h)

-- the lanes

lanes-chain : (z : WordSize) (f : ℕ → Lane) → ((l : ℕ) → Below z.bits (f l)) → Chain z (lanes f)
lanes-chain z f b =
    record {
      words = length-lanes f;
      below = lanes_all (λ (n : ℕ). n < 2 ^ z.bits) f (pow_pos z.bits) (λ l h. (b l).x) (λ l h. (b l).y);
    }

module _ (z : WordSize) (ok : Amounts z) (j : ℕ) (t : List ℕ) where
  pub mix-chain : Chain z (mix z j t)
  unfolding mix mixed_lane
  mix-chain =
      lanes-chain z (mixed_lane z j t)
      λ l.
      mix-below z.bits (alpha z j) (beta z j) (gamma z l) (constant z j l)
      (le_of_lt (ok.α j)) (le_of_lt (ok.β j)) (le_of_lt (ok.γ l)) (lane_at t l)

  pub unmix-chain : Chain z (unmix z j t)
  unfolding unmix unmixed_lane
  unmix-chain =
      lanes-chain z (unmixed_lane z j t)
      λ l.
      unmix-below z.bits (alpha z j) (beta z j) (gamma z l) (constant z j l)
      (le_of_lt (ok.α j)) (le_of_lt (ok.β j)) (le_of_lt (ok.γ l)) (lane_at t l)

  lane_below : Chain z t → (l : ℕ) → Below z.bits (lane_at t l)
  lane_below h l = record { x = h.below l; y = h.below (l + 8) }

  pub unmix-mix-all : Chain z t → unmix z j (mix z j t) ≡ t
  unfolding mix unmix mixed_lane unmixed_lane
  unmix-mix-all h =
      lanes-ext _ t h.words
      λ l lt.
      ap₂ (λ (x y : ℕ). unmix_lane z.bits (alpha z j) (beta z j) (gamma z l) (constant z j l) (lane x y))
      (lanes-x (mixed_lane z j t) l lt) (lanes-y (mixed_lane z j t) l lt)
      ∙ unmix-mix z.bits (alpha z j) (beta z j) (gamma z l) (constant z j l)
      (le_of_lt (ok.α j)) (le_of_lt (ok.β j)) (le_of_lt (ok.γ l)) (lane_at t l) (lane_below h l)

  pub mix-unmix-all : Chain z t → mix z j (unmix z j t) ≡ t
  unfolding mix unmix mixed_lane unmixed_lane
  mix-unmix-all h =
      lanes-ext _ t h.words
      λ l lt.
      ap₂ (λ (x y : ℕ). mix_lane z.bits (alpha z j) (beta z j) (gamma z l) (constant z j l) (lane x y))
      (lanes-x (unmixed_lane z j t) l lt) (lanes-y (unmixed_lane z j t) l lt)
      ∙ mix-unmix z.bits (alpha z j) (beta z j) (gamma z l) (constant z j l)
      (le_of_lt (ok.α j)) (le_of_lt (ok.β j)) (le_of_lt (ok.γ l)) (lane_at t l) (lane_below h l)

-- a step

module _ (z : WordSize) (ok : Amounts z) (j : ℕ) (m t : List ℕ) where
  pub step-chain : Chain z (step z j m t)
  unfolding step
  step-chain = permute-chain z _ (mix-chain z ok j (add_message z t m))

  pub unstep-chain : Chain z (unstep z j m t)
  unfolding unstep
  unstep-chain = added-chain z _ m

  pub unstep-step : Chain z t → unstep z j m (step z j m t) ≡ t
  unfolding step unstep
  unstep-step h =
      ap (λ (u : List ℕ). add_message z (unmix z j u) m) (unpermute-permute _ (mix-chain z ok j (add_message z t m)).words)
      ∙ ap (λ (u : List ℕ). add_message z u m) (unmix-mix-all z ok j _ (added-chain z t m))
      ∙ added_twice z t m h

  pub step-unstep : Chain z t → step z j m (unstep z j m t) ≡ t
  unfolding step unstep
  step-unstep h =
      ap (λ (u : List ℕ). permute (mix z j u)) (added_twice z _ m (unmix-chain z ok j (unpermute t)))
      ∙ ap permute (mix-unmix-all z ok j (unpermute t) (unpermute-chain z t h))
      ∙ permute-unpermute t h.words

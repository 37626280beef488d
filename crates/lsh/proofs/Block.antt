-- A block run backward undoes the block run forward, and forward undoes backward, for every word size, every number of steps, every chain
-- and every block.
-- Assumes nothing.
use mathlib.Core.Path.{◌≡◌, refl, ap, ◌∙◌}
use mathlib.Core.List.{List}
use Prim.Native.Nat.{ℕ, zero, suc}
use Rattle.lsh.specs.WordSize.{WordSize}
use Rattle.lsh.specs.Step.{add_message, step}
use Rattle.lsh.specs.Expansion.{sub_message}
use Rattle.lsh.specs.Block.{Chain, steps, unsteps, forward_steps, backward_steps}
use Rattle.lsh.proofs.Figures.{Amounts}
use Rattle.lsh.proofs.Step.{added-chain, added_twice, step-chain, unstep-chain, unstep-step, step-unstep}

module _ (z : WordSize) (ok : Amounts z) (b : List ℕ) where
  steps-chain : (n : ℕ) (t : List ℕ) → Chain z t → Chain z (steps z b n t)
  unfolding steps
  steps-chain zero t h = h
  steps-chain (suc j) t h = step-chain z ok j _ _

  unsteps-chain : (n : ℕ) (t : List ℕ) → Chain z t → Chain z (unsteps z b n t)
  unfolding unsteps
  unsteps-chain zero t h = h
  unsteps-chain (suc j) t h = unsteps-chain j _ (unstep-chain z ok j _ t)

  unsteps-steps : (n : ℕ) (t : List ℕ) → Chain z t → unsteps z b n (steps z b n t) ≡ t
  unfolding steps unsteps
  unsteps-steps zero t h = refl
  unsteps-steps (suc j) t h =
      ap (unsteps z b j) (unstep-step z ok j (sub_message z b j) (steps z b j t) (steps-chain j t h)) ∙ unsteps-steps j t h

  steps-unsteps : (n : ℕ) (t : List ℕ) → Chain z t → steps z b n (unsteps z b n t) ≡ t
  unfolding steps unsteps
  steps-unsteps zero t h = refl
  steps-unsteps (suc j) t h =
      ap (step z j (sub_message z b j)) (steps-unsteps j _ (unstep-chain z ok j (sub_message z b j) t))
      ∙ step-unstep z ok j (sub_message z b j) t h

  module _ (s : ℕ) (t : List ℕ) where
    pub forward-chain : Chain z (forward_steps z s b t)
    unfolding forward_steps
    forward-chain = added-chain z _ _

    pub backward-chain : Chain z (backward_steps z s b t)
    unfolding backward_steps
    backward-chain = unsteps-chain s _ (added-chain z t _)

    pub backward-forward : Chain z t → backward_steps z s b (forward_steps z s b t) ≡ t
    unfolding forward_steps backward_steps
    backward-forward h = ap (unsteps z b s) (added_twice z (steps z b s t) _ (steps-chain s t h)) ∙ unsteps-steps s t h

    pub forward-backward : Chain z t → forward_steps z s b (backward_steps z s b t) ≡ t
    unfolding forward_steps backward_steps
    forward-backward h =
        let m : List ℕ = sub_message z b s in
        ap (λ (u : List ℕ). add_message z u m) (steps-unsteps s (add_message z t m) (added-chain z t m)) ∙ added_twice z t m h

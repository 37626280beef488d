-- The two engines give the same chains, forward and backward, for every word size, every number of steps, every chain and every block. So a list of blocks, each
-- run on either engine, reaches the chain that the first engine reaches.
-- Assumes nothing.
use mathlib.Core.Path.{◌≡◌, refl, ap, ap₂, ◌∙◌}
use mathlib.Core.List.{List, [], ◌∷◌}
use Prim.Native.Nat.{ℕ, zero, suc}
use Rattle.lsh.specs.WordSize.{WordSize}
use Rattle.lsh.specs.Step.{add_message, mix, unpermute, unmix, step, unstep}
use Rattle.lsh.specs.Expansion.{sub_messages, sub_message}
use Rattle.lsh.specs.Block.{steps, unsteps, forward_steps, backward_steps, forwards_steps, backwards_steps}
use Rattle.groups.specs.GroupStep.{Groups, in_groups, in_words, add_groups, mix_groups, unmix_groups, permute_groups, step_groups, unstep_groups}
use Rattle.groups.specs.GroupBlock.{next_groups, messages_in_groups, message_in_groups, steps_in_groups, unsteps_in_groups, forward_in_groups, backward_in_groups}
use Rattle.groups.specs.Engines.{Engine, words, groups, forward_on, backward_on, Run, blocks_of_runs, forwards_on, backwards_on}
use Rattle.groups.proofs.Parts.{add-groups, next-groups, mix-groups, unmix-groups, permute-groups, unpermute-groups, in-words}

module _ (z : WordSize) (j : ℕ) (m t : List ℕ) where
  step-groups : step_groups z j (in_groups m) (in_groups t) ≡ in_groups (step z j m t)
  unfolding step_groups step
  step-groups =
      ap (λ (u : Groups). permute_groups (mix_groups z j u)) (add-groups z t m)
      ∙ ap permute_groups (mix-groups z j (add_message z t m))
      ∙ permute-groups (mix z j (add_message z t m))

  unstep-groups : unstep_groups z j (in_groups m) (in_groups t) ≡ in_groups (unstep z j m t)
  unfolding unstep_groups unstep
  unstep-groups =
      ap (λ (u : Groups). add_groups z (unmix_groups z j u) (in_groups m)) (unpermute-groups t)
      ∙ ap (λ (u : Groups). add_groups z u (in_groups m)) (unmix-groups z j (unpermute t))
      ∙ add-groups z (unmix z j (unpermute t)) m

module _ (z : WordSize) (b : List ℕ) where
  -- the sub-messages j and j + 1
  messages : (j : ℕ) → ((messages_in_groups z b j).0 ≡ in_groups (sub_messages z b j).0) × ((messages_in_groups z b j).1 ≡ in_groups (sub_messages z b j).1)
  unfolding messages_in_groups sub_messages
  messages zero = (refl, refl)
  messages (suc j) =
      let h = messages j in
      (h.1, ap₂ (next_groups z) h.1 h.0 ∙ next-groups z (sub_messages z b j).1 (sub_messages z b j).0)

  message : (j : ℕ) → message_in_groups z b j ≡ in_groups (sub_message z b j)
  unfolding message_in_groups sub_message
  message j = (messages j).0

  steps-groups : (j : ℕ) (t : List ℕ) → steps_in_groups z b j (in_groups t) ≡ in_groups (steps z b j t)
  unfolding steps_in_groups steps
  steps-groups zero t = refl
  steps-groups (suc j) t = ap₂ (step_groups z j) (message j) (steps-groups j t) ∙ step-groups z j (sub_message z b j) (steps z b j t)

  unsteps-groups : (j : ℕ) (t : List ℕ) → unsteps_in_groups z b j (in_groups t) ≡ in_groups (unsteps z b j t)
  unfolding unsteps_in_groups unsteps
  unsteps-groups zero t = refl
  unsteps-groups (suc j) t =
      ap (λ (m : Groups). unsteps_in_groups z b j (unstep_groups z j m (in_groups t))) (message j)
      ∙ ap (unsteps_in_groups z b j) (unstep-groups z j (sub_message z b j) t)
      ∙ unsteps-groups j (unstep z j (sub_message z b j) t)

  -- what a run ends with has 16 words
  added-words : (t m : List ℕ) → in_words (in_groups (add_message z t m)) ≡ add_message z t m
  unfolding add_message
  added-words t m = in-words _

  unstepped-words : (j : ℕ) (t m : List ℕ) → in_words (in_groups (unsteps z b j (add_message z t m))) ≡ unsteps z b j (add_message z t m)
  unfolding unsteps unstep
  unstepped-words zero t m = added-words t m
  unstepped-words (suc j) t m = unstepped-words j (unmix z j (unpermute (add_message z t m))) (sub_message z b j)

  module _ (s : ℕ) (t : List ℕ) where
    pub forward-in-groups : forward_in_groups z s b t ≡ forward_steps z s b t
    unfolding forward_in_groups forward_steps
    forward-in-groups =
        ap in_words (ap₂ (add_groups z) (steps-groups s t) (message s) ∙ add-groups z (steps z b s t) (sub_message z b s))
        ∙ added-words (steps z b s t) (sub_message z b s)

    pub backward-in-groups : backward_in_groups z s b t ≡ backward_steps z s b t
    unfolding backward_in_groups backward_steps
    backward-in-groups =
        ap in_words (ap (λ (m : Groups). unsteps_in_groups z b s (add_groups z (in_groups t) m)) (message s)
        ∙ ap (unsteps_in_groups z b s) (add-groups z t (sub_message z b s))
        ∙ unsteps-groups s (add_message z t (sub_message z b s)))
        ∙ unstepped-words s t (sub_message z b s)

-- each block on either engine
module _ (z : WordSize) (s : ℕ) where
  forward-on : (e : Engine) (b t : List ℕ) → forward_on e z s b t ≡ forward_steps z s b t
  unfolding forward_on
  forward-on words b t = refl
  forward-on groups b t = forward-in-groups z b s t

  backward-on : (e : Engine) (b t : List ℕ) → backward_on e z s b t ≡ backward_steps z s b t
  unfolding backward_on
  backward-on words b t = refl
  backward-on groups b t = backward-in-groups z b s t

  pub forwards-on-either : (rs : List Run) (t : List ℕ) → forwards_on z s rs t ≡ forwards_steps z s (blocks_of_runs rs) t
  unfolding forwards_on forwards_steps blocks_of_runs
  forwards-on-either [] t = refl
  forwards-on-either (r ∷ rs) t =
      ap (forwards_on z s rs) (forward-on r.engine r.block t) ∙ forwards-on-either rs (forward_steps z s r.block t)

  pub backwards-on-either : (rs : List Run) (t : List ℕ) → backwards_on z s rs t ≡ backwards_steps z s (blocks_of_runs rs) t
  unfolding backwards_on backwards_steps blocks_of_runs
  backwards-on-either [] t = refl
  backwards-on-either (r ∷ rs) t =
      backward-on r.engine r.block (backwards_on z s rs t) ∙ ap (backward_steps z s r.block) (backwards-on-either rs t)

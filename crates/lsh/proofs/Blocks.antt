-- Lists of blocks: backward undoes forward and forward undoes backward; chains that differ never meet under the same blocks; the chain
-- that running blocks backward reaches is the only one from which they lead to the old chain.
-- Assumes nothing.
use mathlib.Core.Path.{◌≡◌, refl, sym, ap, ◌∙◌}
use mathlib.Core.List.{List, [], ◌∷◌, ◌++◌}
use Prim.Native.Nat.{ℕ}
use Rattle.lsh.specs.WordSize.{WordSize, size_of}
use Rattle.lsh.specs.Block.{Chain, forwards_steps, backwards_steps, forwards, backwards, forward_steps, backward_steps}
use Rattle.lsh.proofs.Figures.{Amounts, amounts}
use Rattle.lsh.proofs.Block.{forward-chain, backward-chain, backward-forward, forward-backward}

module _ (z : WordSize) (ok : Amounts z) where
  pub forwards-chain : (bs : List (List ℕ)) (t : List ℕ) → Chain z t → Chain z (forwards z bs t)
  unfolding forwards
  forwards-chain [] t h = h
  forwards-chain (b ∷ bs) t h = forwards-chain bs _ (forward-chain z ok b z.steps t)

  pub backwards-chain : (bs : List (List ℕ)) (t : List ℕ) → Chain z t → Chain z (backwards z bs t)
  unfolding backwards
  backwards-chain [] t h = h
  backwards-chain (b ∷ bs) t h = backward-chain z ok b z.steps _

  pub backwards-forwards : (bs : List (List ℕ)) (t : List ℕ) → Chain z t → backwards z bs (forwards z bs t) ≡ t
  unfolding forwards backwards
  backwards-forwards [] t h = refl
  backwards-forwards (b ∷ bs) t h =
      ap (backward_steps z z.steps b) (backwards-forwards bs _ (forward-chain z ok b z.steps t)) ∙ backward-forward z ok b z.steps t h

  pub forwards-backwards : (bs : List (List ℕ)) (t : List ℕ) → Chain z t → forwards z bs (backwards z bs t) ≡ t
  unfolding forwards backwards
  forwards-backwards [] t h = refl
  forwards-backwards (b ∷ bs) t h =
      ap (forwards z bs) (forward-backward z ok b z.steps _ (backwards-chain bs t h)) ∙ forwards-backwards bs t h

  pub only-chain : (bs : List (List ℕ)) (t u : List ℕ) → Chain z t → forwards z bs t ≡ u → t ≡ backwards z bs u
  only-chain bs t u h e = sym (backwards-forwards bs t h) ∙ ap (backwards z bs) e

-- at both word sizes: chains that are equal after the same blocks were equal before them, and so chains that differ never meet
module _ (w : ℕ) (bs : List (List ℕ)) (t u : List ℕ) (ht : Chain (size_of w) t) (hu : Chain (size_of w) u) where
  pub equal-before : forwards (size_of w) bs t ≡ forwards (size_of w) bs u → t ≡ u
  equal-before meet =
      only-chain (size_of w) (amounts w) bs t (forwards (size_of w) bs u) ht meet ∙ backwards-forwards (size_of w) (amounts w) bs u hu

  pub never-meet : (t ≡ u → ⊥) → forwards (size_of w) bs t ≡ forwards (size_of w) bs u → ⊥
  never-meet differ meet = differ (equal-before meet)

module _ (z : WordSize) (s : ℕ) where
  pub forwards_steps-append : (cs bs : List (List ℕ)) (t : List ℕ) → forwards_steps z s (cs ++ bs) t ≡ forwards_steps z s bs (forwards_steps z s cs t)
  unfolding forwards_steps
  forwards_steps-append [] bs t = refl
  forwards_steps-append (a ∷ cs) bs t = forwards_steps-append cs bs (forward_steps z s a t)

  pub backwards_steps-append : (cs bs : List (List ℕ)) (t : List ℕ) → backwards_steps z s (cs ++ bs) t ≡ backwards_steps z s cs (backwards_steps z s bs t)
  unfolding backwards_steps
  backwards_steps-append [] bs t = refl
  backwards_steps-append (a ∷ cs) bs t = ap (backward_steps z s a) (backwards_steps-append cs bs t)

pub forwards-append : (z : WordSize) (cs bs : List (List ℕ)) (t : List ℕ) → forwards z (cs ++ bs) t ≡ forwards z bs (forwards z cs t)
unfolding forwards
forwards-append z = forwards_steps-append z z.steps

pub backwards-append : (z : WordSize) (cs bs : List (List ℕ)) (t : List ℕ) → backwards z (cs ++ bs) t ≡ backwards z cs (backwards z bs t)
unfolding backwards
backwards-append z = backwards_steps-append z z.steps

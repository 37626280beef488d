-- Loops that store words: the laws of loops over numbers, for lists of words. z is the number that is stored.
-- Assumes nothing.
use mathlib.Core.Path.{◌≡◌, sym, ap, ◌∙◌, subst}
use mathlib.Core.List.{List}
use Prim.Native.Nat.{ℕ, ◌+◌, ◌≤◌, ◌<◌}
use lib.ListN.{length, set}
use Rattle.lsh.specs.Tabulate.{at}
use Rattle.lsh.specs.Lane.{Lane, lane}
use Rattle.lsh.proofs.Permutation.{Permutation}
use Rattle.loops.proofs.Places.{Placed, placed-more, filled_more, scattered-more}
use Rattle.loops.proofs.Lanes.{Laned, laned-more}
use Rattle.word.specs.Numbers.{TakesEach}

module _ {A : Type 0} {number : A → ℕ} {numbers : List A → List ℕ} (h : TakesEach number numbers) where
  pub placed_word : {n : ℕ} {p f : ℕ → ℕ} {m₀ : List ℕ} {m : List A} {i : ℕ} (v : A) → Placed n p f m₀ (numbers m) i → i < n → p i < length m₀
      → ((k : ℕ) → k < i → p k ≡ p i → ⊥) → number v ≡ f i → Placed n p f m₀ (numbers (set m (p i) v)) (i + 1)
  placed_word {n} {p} {f} {m₀} {m} {i} v x lt inside apart e =
      subst (λ (s : List ℕ). Placed n p f m₀ s (i + 1)) (sym (h.stored m (p i) v)) (placed-more (number v) x lt inside apart e)

  pub filled_word : {n : ℕ} {f : ℕ → ℕ} {m₀ : List ℕ} {m : List A} {i : ℕ} (v : A) → Placed n (λ k. k) f m₀ (numbers m) i → i < n → n ≤ length m₀
      → number v ≡ f i → Placed n (λ k. k) f m₀ (numbers (set m i v)) (i + 1)
  filled_word {n} {f} {m₀} {m} {i} v x lt room e =
      subst (λ (s : List ℕ). Placed n (λ k. k) f m₀ s (i + 1)) (sym (h.stored m i v)) (filled_more (number v) x lt room e)

  pub scattered_word : {π : List ℕ} {f : ℕ → ℕ} {m₀ : List ℕ} {m : List A} {i : ℕ} (v : A) → Permutation π → Placed 16 (at π) f m₀ (numbers m) i → i < 16
      → length m₀ ≡ 16 → number v ≡ f i → Placed 16 (at π) f m₀ (numbers (set m (at π i) v)) (i + 1)
  scattered_word {π} {f} {m₀} {m} {i} v perm x lt len e =
      subst (λ (s : List ℕ). Placed 16 (at π) f m₀ s (i + 1)) (sym (h.stored m (at π i) v)) (scattered-more (number v) perm x lt len e)

  pub laned_word : {f : ℕ → Lane} {r : List A} {i : ℕ} (x y : A) → Laned f (numbers r) i → i < 8 → lane (number x) (number y) ≡ f i
      → Laned f (numbers (set (set r i x) (i + 8) y)) (i + 1)
  laned_word {f} {r} {i} x y d lt e =
      subst (λ (s : List ℕ). Laned f s (i + 1)) (sym (h.stored (set r i x) (i + 8) y ∙ ap (λ (s : List ℕ). set s (i + 8) (number y)) (h.stored r i x)))
      (laned-more (number x) (number y) d lt e)

  pub length_numbers : {k : ℕ} (m : List A) → length m ≡ k → length (numbers m) ≡ k
  length_numbers m e = h.len m ∙ e

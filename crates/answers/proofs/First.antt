-- The first of two answers that refuses, by the one that is made first.
-- Assumes nothing.
use mathlib.Core.Path.{◌≡◌, refl, sym, ◌∙◌}
use mathlib.Core.Bool.{Bool, true, false, cond, false≢true}
use Prim.Native.Nat.{ℕ}
use lib.Dec.{eqb}
use borrow.Author.Tests.{eq-eqb, ne_eqb, eqb-true}
use Rattle.answers.specs.First.{first}

module _ (a b : ℕ) where
  -- it stands if it refuses, and else the second does
  pub refused-first : {c : ℕ} → c ≡ a → (c ≡ 0 → ⊥) → c ≡ first a b
  unfolding first
  refused-first is other = is ∙ sym (rw (ne_eqb a 0 (λ e. other (is ∙ e))))

  pub passed_first : {c d : ℕ} → c ≡ a → c ≡ 0 → d ≡ b → d ≡ first a b
  unfolding first
  passed_first is none then = then ∙ sym (rw (eq-eqb a 0 (sym is ∙ none)))

  pub both-passed : first a b ≡ 0 → (a ≡ 0) × (b ≡ 0)
  unfolding first
  both-passed is = go (eqb a 0) refl is
    where
      go : (t : Bool) → eqb a 0 ≡ t → cond t b a ≡ 0 → (a ≡ 0) × (b ≡ 0)
      go true none is = (eqb-true a 0 none, is)
      go false some is = absurd (false≢true (sym some ∙ eq-eqb a 0 is))

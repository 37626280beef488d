-- The answer and the output of a refused call, and of an accepted one.
-- Assumes nothing.
use mathlib.Core.Path.{◌≡◌, refl, sym, ap, ◌∙◌}
use mathlib.Core.Bool.{Bool, true, false, cond}
use mathlib.Core.List.{List, ◌++◌}
use Prim.Native.Nat.{ℕ}
use lib.Dec.{eqb}
use lib.ListN.{drop}
use borrow.Author.Tests.{eq-eqb, ne_eqb, eqb-true}
use Rattle.std.specs.Prelude.{Result}
use Rattle.std.specs.Result.{IsErrAnd}
use Rattle.std.proofs.lemmas.Result.{err_from_is_err_and}
use Rattle.answers.specs.declared.Refusal.{Refusal}
use Rattle.answers.specs.Refusal.{number, answer_of}
use Rattle.answers.proofs.Numbers.{some_number}
use Rattle.answers.specs.Output.{written}

module _ (answer size : ℕ) (front output : List ℕ) where
  pub written_is : answer ≡ 0 → written answer size front output ≡ front ++ drop size output
  unfolding written
  written_is is = rw (eq-eqb answer 0 is)

  pub refused-output : {a : ℕ} → a ≡ answer → (a ≡ 0 → ⊥) → (a ≡ answer) × (output ≡ written answer size front output)
  unfolding written
  refused-output is other = (is, rw (ne_eqb answer 0 (λ e. other (is ∙ e))))

  -- where a test refused, and `?` passed its refusal on
  pub refused-by : (x : Result Unit Refusal) (e : Refusal) → number e ≡ answer → IsErrAnd x (λ y. y ≡ e) → (answer_of x ≡ answer) × (output ≡ written answer size front output)
  refused-by x e is passed =
      let p = err_from_is_err_and x passed in
      let a : answer_of x ≡ number e = ap answer_of p.1 ∙ ap number p.2 in
      refused-output (a ∙ is) (λ z. some_number e (sym a ∙ z))

  pub written-output : {f d : List ℕ} → answer ≡ 0 → f ≡ front → d ≡ f ++ drop size output → (0 ≡ answer) × (d ≡ written answer size front output)
  written-output is same stored = (sym is, stored ∙ ap (λ (f : List ℕ). f ++ drop size output) same ∙ sym (written_is is))

  -- what would be written counts only where it is
  pub same-written : {other : List ℕ} → (answer ≡ 0 → front ≡ other) → written answer size front output ≡ written answer size other output
  unfolding written
  same-written {other} same = go (eqb answer 0) refl
    where
      go : (t : Bool) → eqb answer 0 ≡ t → cond t (front ++ drop size output) output ≡ cond t (other ++ drop size output) output
      go true is = ap (λ (f : List ℕ). f ++ drop size output) (same (eqb-true answer 0 is))
      go false is = refl

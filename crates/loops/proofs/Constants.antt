-- The step constants in an array: SC_j[l] stands at j * 8 + l. They are worked out row by row.
-- Assumes nothing.
use mathlib.Core.Path.{◌≡◌, sym, ap, ap₂, ◌∙◌, subst}
use mathlib.Core.List.{List}
use Prim.Native.Nat.{ℕ, ◌+◌, ◌*◌, ◌/◌, ◌%◌, ◌≤◌, ◌<◌}
use native.Mathlib.Numerals.{add-one}
use native.Mathlib.Omega.{arith}
use lib.ListN.{length}
use lib.Seq.{sets}
use Rattle.lsh.specs.Tabulate.{at, tabulate}
use Rattle.lsh.specs.WordSize.{WordSize}
use Rattle.lsh.specs.StepConstants.{constant, constants}
use Rattle.lsh.proofs.Tabulate.{length-tabulate, at-tabulate, tabulate-ext, tabulate-cong}
use Rattle.loops.specs.Constants.{next_constant, next_row}
use Rattle.loops.proofs.Places.{Placed, placed-none, filled-several, filled-all}

at_place : (z : WordSize) (j l : ℕ) → l < 8 → constant z ((j * 8 + l) / 8) ((j * 8 + l) % 8) ≡ constant z j l
at_place z j l hl =
    let q : (j * 8 + l) / 8 ≡ j = omega arith in
    let r : (j * 8 + l) % 8 ≡ l = omega arith in
    ap₂ (constant z) q r

pub at_constant : (z : WordSize) (sc : List ℕ) → sc ≡ constants z → (j l : ℕ) → j < z.steps → l < 8 → at sc (j * 8 + l) ≡ constant z j l
unfolding constants
at_constant z sc e j l hj hl =
    ap (λ (s : List ℕ). at s (j * 8 + l)) e
    ∙ at-tabulate (z.steps * 8) (λ k. constant z (k / 8) (k % 8)) (j * 8 + l) (omega arith)
    ∙ at_place z j l hl

-- the loop over the rows: j of them stand in the array, and p is the next one
pub record WorkedOut (z : WordSize) (sc₀ sc p : List ℕ) (j : ℕ) : Type 0 where
  pub rows : Placed (z.steps * 8) (λ k. k) (λ k. constant z (k / 8) (k % 8)) sc₀ sc (j * 8)
  pub next : p ≡ tabulate 8 (constant z j)

pub worked-none : (z : WordSize) (sc p : List ℕ) → length p ≡ 8 → p ≡ z.first_constants → WorkedOut z sc sc p 0
unfolding constant
worked-none z sc p len e =
    record { rows = placed-none (z.steps * 8) _ _ sc; next = sym (tabulate-ext 8 _ p len (λ l hl. sym (ap (λ (s : List ℕ). at s l) e))) }

pub worked-more : {z : WordSize} {sc₀ sc p : List ℕ} {j : ℕ} (o q : List ℕ) → WorkedOut z sc₀ sc p j → j < z.steps
    → length sc₀ ≡ z.steps * 8 → o ≡ sets sc (j * 8) p → q ≡ next_row z p → WorkedOut z sc₀ o q (j + 1)
unfolding next_row next_constant constant
worked-more {z} {sc₀} {sc} {p} {j} o q h lt len eo eq =
    record {
      rows =
          subst (λ (s : List ℕ). Placed (z.steps * 8) (λ k. k) entry sc₀ s ((j + 1) * 8)) (sym eo)
          (subst (Placed (z.steps * 8) (λ k. k) entry sc₀ (sets sc (j * 8) p)) (omega (arith, eight))
          (filled-several p h.rows (omega (arith, eight)) (omega arith) (λ l hl. word l (omega (arith, eight)) ∙ sym (at_place z j l (omega (arith, eight))))));
      next =
          eq
          ∙ tabulate-cong 8 _ _ (λ l hl. ap (next_constant z) (word l hl))
          ∙ ap (λ (k : ℕ). tabulate 8 (constant z k)) (sym (add-one j));
    }
  where
    entry : ℕ → ℕ
    entry k = constant z (k / 8) (k % 8)

    eight : length p ≡ 8
    eight = ap length h.next ∙ length-tabulate 8 (constant z j)

    word : (l : ℕ) → l < 8 → at p l ≡ constant z j l
    word l hl = ap (λ (s : List ℕ). at s l) h.next ∙ at-tabulate 8 (constant z j) l hl

pub worked-all : {z : WordSize} {sc₀ sc p : List ℕ} {j : ℕ} → WorkedOut z sc₀ sc p j → z.steps ≤ j → length sc₀ ≡ z.steps * 8 → sc ≡ constants z
unfolding constants
worked-all h le len = filled-all h.rows (omega arith) len

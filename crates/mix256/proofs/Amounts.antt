-- The amounts of the steps, as the code has them: from step to step, and as rotations of a group.
-- Assumes nothing.
use mathlib.Core.Path.{◌≡◌, refl, sym, ap, ap₂, ◌∙◌, subst⁻¹}
use mathlib.Core.List.{List, [], ◌∷◌}
use Prim.Native.Nat.{ℕ, zero, suc, ◌+◌, ◌-◌, ◌*◌, ◌/◌, ◌%◌, ◌^◌, ◌<◌}
use native.Mathlib.Omega.{arith}
use Rattle.lsh.specs.Tabulate.{at}
use Rattle.lsh.specs.Word.{add, subtract, rotate_left, rotate_right}
use Rattle.lsh.specs.WordSize.{WordSize, lsh256, alpha, beta, gamma}
use Rattle.lsh.proofs.Word.{add-lt}
use Rattle.lsh.proofs.Figures.{Amounts}
use Rattle.lsh.proofs.Tabulate.{at-tabulate, tabulate-cong}
use Rattle.groups.specs.Group.{group, each_word, wordwise}
use Rattle.loops.proofs.Machine.{left-left, right-left-is}
use Rattle.mix256.specs.Amounts.{shifts, beta_gamma, remaining, powers}

-- the shifts by the parity of the step
shifts_at : WordSize → ℕ → List ℕ
shifts_at z p = at z.alphas p ∷ (z.bits - at z.alphas p) ∷ at z.betas p ∷ (z.bits - at z.betas p) ∷ []

pub even-shifts : (j : ℕ) → j % 2 ≡ 0 → 29 ∷ 3 ∷ 1 ∷ 31 ∷ [] ≡ shifts lsh256 j
unfolding shifts alpha beta lsh256 shifts_at
even-shifts j e = ap (shifts_at lsh256) (sym e)

pub odd-shifts : (j : ℕ) → j % 2 ≡ 1 → 5 ∷ 27 ∷ 17 ∷ 15 ∷ [] ≡ shifts lsh256 j
unfolding shifts alpha beta lsh256 shifts_at
odd-shifts j e = ap (shifts_at lsh256) (sym e)

-- two steps on they are the same
pub shifts-two : (z : WordSize) (j : ℕ) → shifts z (j + 1 + 1) ≡ shifts z j
unfolding shifts alpha beta shifts_at
shifts-two z j = let e : (j + 1 + 1) % 2 ≡ j % 2 = omega arith in ap (shifts_at z) e

-- what the code makes of the shifts of a step
abbrev pub next : List ℕ → List ℕ
next k = subtract 32 34 (at k 0) ∷ subtract 32 30 (at k 1) ∷ subtract 32 18 (at k 2) ∷ subtract 32 46 (at k 3) ∷ []

next-at : (p : ℕ) → p < 2 → next (shifts_at lsh256 p) ≡ shifts_at lsh256 (1 - p)
unfolding shifts_at lsh256 subtract
next-at zero h = refl
next-at (suc zero) h = refl
next-at (suc (suc p)) h = absurd (omega arith)

pub next-shifts-are : (j : ℕ) {k : List ℕ} → k ≡ shifts lsh256 j → next k ≡ shifts lsh256 (j + 1)
unfolding shifts alpha beta shifts_at
next-shifts-are j e =
    let other : 1 - j % 2 ≡ (j + 1) % 2 = omega arith in
    ap next e ∙ next-at (j % 2) (omega arith) ∙ ap (shifts_at lsh256) other

-- two shifts that are a rotation
abbrev pub Turn : ℕ → ℕ → Type 0
Turn l h = (l < 32) × (h < 32) × (l + h ≡ 32)

pub turn-back : {l h : ℕ} → Turn l h → Turn h l
turn-back t = (t.1, t.0, omega arith)

turns_at : (p : ℕ) → p < 2 → Turn (at (shifts_at lsh256 p) 0) (at (shifts_at lsh256 p) 1) × Turn (at (shifts_at lsh256 p) 2) (at (shifts_at lsh256 p) 3)
unfolding shifts_at lsh256
turns_at zero h = ((omega arith, omega arith, refl), (omega arith, omega arith, refl))
turns_at (suc zero) h = ((omega arith, omega arith, refl), (omega arith, omega arith, refl))
turns_at (suc (suc p)) h = absurd (omega arith)

-- what the shifts of a step are
pub record Shifts (j : ℕ) (k : List ℕ) : Type 0 where
  pub α : at k 0 ≡ alpha lsh256 j
  pub β : at k 2 ≡ beta lsh256 j
  pub α-turn : Turn (at k 0) (at k 1)
  pub β-turn : Turn (at k 2) (at k 3)

pub shifts-are : (j : ℕ) {k : List ℕ} → k ≡ shifts lsh256 j → Shifts j k
unfolding shifts alpha beta shifts_at
shifts-are j {k} e =
    let t = turns_at (j % 2) (omega arith) in
    record {
      α = ap (λ (s : List ℕ). at s 0) e;
      β = ap (λ (s : List ℕ). at s 2) e;
      α-turn = rw e t.0;
      β-turn = rw e t.1;
    }

-- the power of lane l in step i
pub at-powers : (f : ℕ → ℕ → ℕ) (pw : List ℕ) → pw ≡ powers f → (q i l : ℕ) → q < 32 → q / 8 ≡ i → q % 8 ≡ l → at pw q ≡ 2 ^ f i l
unfolding powers
at-powers f pw e q i l hq ei el =
    ap (λ (s : List ℕ). at s q) e ∙ at-tabulate 32 (λ k. 2 ^ f (k / 8) (k % 8)) q hq ∙ ap₂ (λ (m n : ℕ). 2 ^ f m n) ei el

-- sums are words
pub sums-below : (w : ℕ) (x y : List ℕ) {s : List ℕ} → s ≡ wordwise (add w) x y → (i : ℕ) → i < 4 → at s i < 2 ^ w
unfolding wordwise
sums-below w x y {s} e i hi = subst⁻¹ (λ (n : ℕ). n < 2 ^ w) (ap (λ (u : List ℕ). at u i) e ∙ at-tabulate 4 (λ k. add w (at x k) (at y k)) i hi) (add-lt w (at x i) (at y i))

-- the rotations by beta and by gamma as one
pub beta-gamma-less : (j l : ℕ) → beta_gamma lsh256 j l < 32
unfolding beta_gamma lsh256
beta-gamma-less j l = omega arith

-- the amounts come again after four steps
pub beta-gamma-is : (z : WordSize) → Amounts z → (j l : ℕ) (y : List ℕ) → ((i : ℕ) → i < 4 → at y i < 2 ^ z.bits)
    → wordwise (rotate_left z.bits) (group (beta_gamma z (j % 4)) l) y ≡ wordwise (rotate_left z.bits) (group (gamma z) l) (each_word (rotate_left z.bits (beta z j)) y)
unfolding wordwise each_word group beta_gamma beta
beta-gamma-is z ok j l y below =
    tabulate-cong 4 _ _
    λ i hi.
    let again : j % 4 % 2 ≡ j % 2 = omega arith in
    ap (λ (k : ℕ). rotate_left z.bits k (at y i)) (at-tabulate 4 (λ m. (at z.betas (j % 4 % 2) + gamma z (4 * l + m)) % z.bits) i hi ∙ ap (λ (p : ℕ). (at z.betas p + gamma z (4 * l + i)) % z.bits) again)
    ∙ sym (left-left z.bits (at z.betas (j % 2)) (gamma z (4 * l + i)) (at y i) (ok.β j) (ok.γ (4 * l + i)) (below i hi))
    ∙ sym (ap₂ (rotate_left z.bits) (at-tabulate 4 (λ m. gamma z (4 * l + m)) i hi) (at-tabulate 4 (λ m. rotate_left z.bits (at z.betas (j % 2)) (at y m)) i hi))

-- the rotations to the right by gamma, as rotations to the left
pub remaining-less : (j l : ℕ) → remaining lsh256 j l < 32
unfolding remaining lsh256
remaining-less j l = omega arith

pub remaining-is : (z : WordSize) → Amounts z → (j l : ℕ) (y : List ℕ) → ((i : ℕ) → at y i < 2 ^ z.bits)
    → wordwise (rotate_left z.bits) (group (remaining z j) l) y ≡ wordwise (rotate_right z.bits) (group (gamma z) l) y
unfolding wordwise group remaining
remaining-is z ok j l y below =
    tabulate-cong 4 _ _
    λ i hi.
    ap (λ (k : ℕ). rotate_left z.bits k (at y i)) (at-tabulate 4 (λ m. (z.bits - gamma z (4 * l + m)) % z.bits) i hi)
    ∙ right-left-is z.bits (gamma z (4 * l + i)) (at y i) (ok.γ (4 * l + i)) (below i)
    ∙ sym (ap (λ (k : ℕ). rotate_right z.bits k (at y i)) (at-tabulate 4 (λ m. gamma z (4 * l + m)) i hi))

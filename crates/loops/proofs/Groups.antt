-- Groups of four words in arrays: those of a chain and of the step constants, and the mix group by group.
-- Assumes nothing.
use mathlib.Core.Path.{◌≡◌, refl, ap, ap₂, ◌∙◌}
use mathlib.Core.List.{List, ◌++◌}
use Prim.Native.Nat.{ℕ, ◌+◌, ◌*◌, ◌<◌}
use native.Mathlib.Omega.{arith}
use lib.ListN.{length}
use Rattle.lsh.specs.Tabulate.{at, tabulate, tabulate_from}
use Rattle.lsh.specs.WordSize.{WordSize}
use Rattle.lsh.specs.StepConstants.{constant, constants}
use Rattle.lsh.specs.Step.{mix, unmix}
use Rattle.lsh.proofs.Tabulate.{at-tabulate, tabulate-ext, tabulate-cong}
use Rattle.groups.specs.Group.{group}
use Rattle.groups.specs.GroupStep.{Pair, pair, groups, in_groups, in_words, mix_pair, unmix_pair, mix_groups, unmix_groups}
use Rattle.groups.proofs.Parts.{mixed-words, unmixed-words}
use Rattle.loops.specs.Fours.{four}
use Rattle.loops.proofs.Constants.{at_constant}

-- four step constants from the first lane of a group on, in the array of all
pub four-constants : (z : WordSize) (sc : List ℕ) → sc ≡ constants z → (j l : ℕ) → j < z.steps → l < 2 → four sc (j * 8 + l * 4) ≡ group (constant z j) l
unfolding four group
four-constants z sc e j l hj hl =
    tabulate-cong 4 _ _
    λ i hi.
    let place : j * 8 + l * 4 + i ≡ j * 8 + (4 * l + i) = omega arith in
    ap (at sc) place ∙ at_constant z sc e j (4 * l + i) hj (omega arith)

-- and in the row of a step
pub four-of-row : (z : WordSize) (c : List ℕ) (j : ℕ) → c ≡ tabulate 8 (constant z j) → (l : ℕ) → l < 2 → four c (4 * l) ≡ group (constant z j) l
unfolding four group
four-of-row z c j e l hl =
    tabulate-cong 4 _ _
    λ i hi.
    ap (λ (s : List ℕ). at s (4 * l + i)) e ∙ at-tabulate 8 (constant z j) (4 * l + i) (omega arith)

-- the words of four groups, one by one
four-words : (x : List ℕ) → length x ≡ 4 → tabulate 4 (at x) ≡ x
four-words x h = tabulate-ext 4 (at x) x h (λ k lt. refl)

module _ (a b c d : List ℕ) (ha : length a ≡ 4) (hb : length b ≡ 4) (hc : length c ≡ 4) (hd : length d ≡ 4) where
  pub listed-words : tabulate 4 (at a) ++ tabulate 4 (at b) ++ tabulate 4 (at c) ++ tabulate 4 (at d) ≡ in_words (groups a b c d)
  unfolding in_words
  listed-words = rw (four-words a ha, four-words b hb, four-words c hc, four-words d hd)

-- what is mixed group by group is the mix
module _ (z : WordSize) (j : ℕ) (t : List ℕ) {r : List ℕ} {p q : Pair} (is : r ≡ in_words (groups p.x q.x p.y q.y)) where
  pub mixed-by-groups : p ≡ mix_pair z j 0 (pair (four t 0) (four t 8)) → q ≡ mix_pair z j 1 (pair (four t 4) (four t 12)) → r ≡ mix z j t
  unfolding four mix_groups in_groups group tabulate tabulate_from
  mixed-by-groups ep eq = is ∙ ap₂ (λ (u v : Pair). in_words (groups u.x v.x u.y v.y)) ep eq ∙ mixed-words z j t

  pub unmixed-by-groups : p ≡ unmix_pair z j 0 (pair (four t 0) (four t 8)) → q ≡ unmix_pair z j 1 (pair (four t 4) (four t 12)) → r ≡ unmix z j t
  unfolding four unmix_groups in_groups group tabulate tabulate_from
  unmixed-by-groups ep eq = is ∙ ap₂ (λ (u v : Pair). in_words (groups u.x v.x u.y v.y)) ep eq ∙ unmixed-words z j t

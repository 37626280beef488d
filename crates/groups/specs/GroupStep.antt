-- A chain in four groups, and a step on it. The groups of X are lanes 0 to 3 and 4 to 7, and those of Y the same lanes: T[0], T[1], T[2], T[3] of (21).
-- Assumes nothing.
use Rattle.std.specs.Prelude.{List, [], ◌∷◌, ◌++◌, ℕ}
use Rattle.lsh.specs.Tabulate.{at}
use Rattle.lsh.specs.Word.{add, subtract, rotate_left, rotate_right, xor}
use Rattle.lsh.specs.WordSize.{WordSize, alpha, beta, gamma}
use Rattle.lsh.specs.StepConstants.{constant}
use Rattle.groups.specs.Group.{group, each_word, wordwise, permute_words, unpermute_words}

-- two groups of the same lanes
pub record Pair : Type 0 where
  pub x : List ℕ
  pub y : List ℕ

abbrev pub pair : List ℕ → List ℕ → Pair
pair x y = record { x = x; y = y }

pub record Groups : Type 0 where
  pub x₀ : List ℕ
  pub x₁ : List ℕ
  pub y₀ : List ℕ
  pub y₁ : List ℕ

abbrev pub groups : List ℕ → List ℕ → List ℕ → List ℕ → Groups
groups x₀ x₁ y₀ y₁ = record { x₀ = x₀; x₁ = x₁; y₀ = y₀; y₁ = y₁ }

-- 16 words in groups (21), and the words of groups
unfoldable pub in_groups : List ℕ → Groups
in_groups t = groups (group (at t) 0) (group (at t) 1) (group (at t) 2) (group (at t) 3)

unfoldable pub in_words : Groups → List ℕ
in_words t = t.x₀ ++ t.x₁ ++ t.y₀ ++ t.y₁

-- message addition (9)
unfoldable pub add_groups : WordSize → Groups → Groups → Groups
add_groups z t m =
    let xor_words : List ℕ → List ℕ → List ℕ = wordwise (xor z.bits) in
    groups (xor_words t.x₀ m.x₀) (xor_words t.x₁ m.x₁) (xor_words t.y₀ m.y₀) (xor_words t.y₁ m.y₁)

-- the mix of step j on lanes 4l to 4l + 3 (22), with group l of the constants and of gamma
unfoldable pub mix_pair : WordSize → ℕ → ℕ → Pair → Pair
mix_pair z j l t =
    let w : ℕ = z.bits in
    let x : List ℕ = wordwise (xor w) (each_word (rotate_left w (alpha z j)) (wordwise (add w) t.x t.y)) (group (constant z j) l) in
    let y : List ℕ = each_word (rotate_left w (beta z j)) (wordwise (add w) t.y x) in
    pair (wordwise (add w) x y) (wordwise (rotate_left w) (group (gamma z) l) y)

-- and the same taken apart
unfoldable pub unmix_pair : WordSize → ℕ → ℕ → Pair → Pair
unmix_pair z j l t =
    let w : ℕ = z.bits in
    let y : List ℕ = wordwise (rotate_right w) (group (gamma z) l) t.y in
    let x : List ℕ = wordwise (subtract w) t.x y in
    let y₀ : List ℕ = wordwise (subtract w) (each_word (rotate_right w (beta z j)) y) x in
    pair (wordwise (subtract w) (each_word (rotate_right w (alpha z j)) (wordwise (xor w) x (group (constant z j) l))) y₀) y₀

unfoldable pub mix_groups : WordSize → ℕ → Groups → Groups
mix_groups z j t =
    let p : Pair = mix_pair z j 0 (pair t.x₀ t.y₀) in
    let q : Pair = mix_pair z j 1 (pair t.x₁ t.y₁) in
    groups p.x q.x p.y q.y

unfoldable pub unmix_groups : WordSize → ℕ → Groups → Groups
unmix_groups z j t =
    let p : Pair = unmix_pair z j 0 (pair t.x₀ t.y₀) in
    let q : Pair = unmix_pair z j 1 (pair t.x₁ t.y₁) in
    groups p.x q.x p.y q.y

-- sigma permutes the words within each group, those of X in one way and those of Y in another, and then the groups (15)
unfoldable pub within_x : List ℕ
within_x = 2 ∷ 0 ∷ 1 ∷ 3 ∷ []

unfoldable pub within_y : List ℕ
within_y = 0 ∷ 3 ∷ 2 ∷ 1 ∷ []

unfoldable pub permute_groups : Groups → Groups
permute_groups t = groups (permute_words within_x t.x₁) (permute_words within_y t.y₁) (permute_words within_x t.x₀) (permute_words within_y t.y₀)

unfoldable pub unpermute_groups : Groups → Groups
unpermute_groups t =
    groups (unpermute_words within_x t.y₀) (unpermute_words within_x t.x₀) (unpermute_words within_y t.y₁) (unpermute_words within_y t.x₁)

-- step j with its sub-message m (6)
unfoldable pub step_groups : WordSize → ℕ → Groups → Groups → Groups
step_groups z j m t = permute_groups (mix_groups z j (add_groups z t m))

unfoldable pub unstep_groups : WordSize → ℕ → Groups → Groups → Groups
unstep_groups z j m t = add_groups z (unmix_groups z j (unpermute_groups t)) m

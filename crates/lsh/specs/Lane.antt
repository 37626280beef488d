-- The mixing of two words, and the same taken apart. Figure 1 and (11) are lost in our copy of the paper; (22) says the same of whole groups.
-- Assumes nothing.
use Rattle.std.specs.Prelude.{ℕ}
use Rattle.lsh.specs.Word.{add, subtract, rotate_left, rotate_right, xor}

-- the words X and Y of a lane
pub record Lane : Type 0 where
  pub x : ℕ
  pub y : ℕ

abbrev pub lane : ℕ → ℕ → Lane
lane x y = record { x = x; y = y }

-- with the amounts α, β and γ and the step constant c
unfoldable pub mix_lane : ℕ → ℕ → ℕ → ℕ → ℕ → Lane → Lane
mix_lane w α β γ c t =
    let x : ℕ = xor w (rotate_left w α (add w t.x t.y)) c in
    let y : ℕ = rotate_left w β (add w t.y x) in
    lane (add w x y) (rotate_left w γ y)

-- each sum becomes a difference, each left rotation a right one, from the last to the first
unfoldable pub unmix_lane : ℕ → ℕ → ℕ → ℕ → ℕ → Lane → Lane
unmix_lane w α β γ c t =
    let y : ℕ = rotate_right w γ t.y in
    let x : ℕ = subtract w t.x y in
    let y₀ : ℕ = subtract w (rotate_right w β y) x in
    lane (subtract w (rotate_right w α (xor w x c)) y₀) y₀

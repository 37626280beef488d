-- A mixing lane is undone, and undoes, for every word size, every amount and every constant.
-- Assumes nothing.
use mathlib.Core.Path.{◌≡◌}
use Prim.Native.Nat.{ℕ, ◌^◌, ◌≤◌, ◌<◌}
use Rattle.lsh.specs.Word.{add, subtract, rotate_left, rotate_right, xor}
use Rattle.lsh.specs.Lane.{Lane, mix_lane, unmix_lane}
use Rattle.lsh.proofs.Word.{add-lt, subtract-lt, xor_lt, rotate_left-lt, rotate_right-lt, sub-add, add-sub, left-right, right-left, xor-xor}

-- both words are below 2 ^ w
pub record Below (w : ℕ) (t : Lane) : Type 0 where
  pub x : t.x < 2 ^ w
  pub y : t.y < 2 ^ w

module _ (w α β γ c : ℕ) (hα : α ≤ w) (hβ : β ≤ w) (hγ : γ ≤ w) (t : Lane) where
  -- the words of a lane on the way, as `mix_lane` names them
  x₁ : ℕ
  x₁ = xor w (rotate_left w α (add w t.x t.y)) c

  y₁ : ℕ
  y₁ = add w t.y x₁

  y₂ : ℕ
  y₂ = rotate_left w β y₁

  pub mix-below : Below w (mix_lane w α β γ c t)
  unfolding mix_lane x₁ y₁ y₂
  mix-below = record { x = add-lt w x₁ y₂; y = rotate_left-lt w γ y₂ hγ (rotate_left-lt w β y₁ hβ (add-lt w t.y x₁)) }

  pub unmix-mix : Below w t → unmix_lane w α β γ c (mix_lane w α β γ c t) ≡ t
  unfolding mix_lane unmix_lane x₁ y₁ y₂
  unmix-mix h =
      let hx₁ : x₁ < 2 ^ w = xor_lt w _ c in
      let hy₁ : y₁ < 2 ^ w = add-lt w t.y x₁ in
      let hy₂ : y₂ < 2 ^ w = rotate_left-lt w β y₁ hβ hy₁ in
      simp (
        right-left w γ y₂ hγ hy₂,
        sub-add w x₁ y₂ hx₁ hy₂,
        right-left w β y₁ hβ hy₁,
        sub-add w t.y x₁ h.y hx₁,
        xor-xor w (rotate_left w α (add w t.x t.y)) c (rotate_left-lt w α _ hα (add-lt w t.x t.y)),
        right-left w α (add w t.x t.y) hα (add-lt w t.x t.y),
        sub-add w t.x t.y h.x h.y,
      )

  -- the words of a lane on the way back, as `unmix_lane` names them
  v : ℕ
  v = rotate_right w γ t.y

  u : ℕ
  u = subtract w t.x v

  v₀ : ℕ
  v₀ = subtract w (rotate_right w β v) u

  pub unmix-below : Below w (unmix_lane w α β γ c t)
  unfolding unmix_lane v u v₀
  unmix-below = record { x = subtract-lt w _ v₀; y = subtract-lt w _ u }

  pub mix-unmix : Below w t → mix_lane w α β γ c (unmix_lane w α β γ c t) ≡ t
  unfolding mix_lane unmix_lane v u v₀
  mix-unmix h =
      let hv : v < 2 ^ w = rotate_right-lt w γ t.y hγ h.y in
      let hv₁ : rotate_right w β v < 2 ^ w = rotate_right-lt w β v hβ hv in
      let hu : u < 2 ^ w = subtract-lt w t.x v in
      let hv₀ : v₀ < 2 ^ w = subtract-lt w (rotate_right w β v) u in
      let hx : xor w u c < 2 ^ w = xor_lt w u c in
      simp (
        add-sub w (rotate_right w α (xor w u c)) v₀ (rotate_right-lt w α (xor w u c) hα hx) hv₀,
        left-right w α (xor w u c) hα hx,
        xor-xor w u c hu,
        add-sub w (rotate_right w β v) u hv₁ hu,
        left-right w β v hβ hv,
        add-sub w t.x v h.x hv,
        left-right w γ t.y hγ h.y,
      )

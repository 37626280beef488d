-- The places of a roll's indexes and chains: slots lie apart, and in the roll.
-- Assumes nothing.
use mathlib.Core.Path.{◌≡◌, refl, ap}
use mathlib.Core.Logic.{◌⊎◌, inl, inr}
use Prim.Native.Nat.{ℕ, zero, suc, ◌+◌, ◌-◌, ◌*◌, ◌≤◌, ◌<◌}
use native.Mathlib.Decide.{dec_lt}
use native.Mathlib.Omega.{arith}
use Rattle.lsh.specs.WordSize.{WordSize, chain_bytes}
use Rattle.checkpoints.specs.Slots.{index_bytes, slot_bytes, roll_bytes, index_place, chain_place}

-- n bytes from b on end before size bytes from a on, or begin after them
abbrev pub Clear : ℕ → ℕ → ℕ → ℕ → Type 0
Clear b n a size = (b + n ≤ a) ⊎ (a + size ≤ b)

module _ (z : WordSize) where
  -- the bytes of slot i; 0 is the head, an index alone
  abbrev pub extent : ℕ → ℕ
  extent zero = index_bytes
  extent (suc i) = slot_bytes z

  -- a slot is its index and its chain
  pub slot_is : slot_bytes z ≡ index_bytes + chain_bytes z
  unfolding slot_bytes
  slot_is = refl

  pub extent-is : (i : ℕ) → 0 < i → extent i ≡ slot_bytes z
  extent-is zero some = absurd (omega arith)
  extent-is (suc i) some = refl

  pub index-first : (i : ℕ) → index_bytes ≤ extent i
  index-first zero = omega arith
  index-first (suc i) = omega (arith, slot_is)

  -- each ends before the next one
  ends : (i j : ℕ) → i < j → index_place z i + extent i ≤ index_place z j
  unfolding index_place roll_bytes
  ends i zero h = absurd (omega arith)
  ends zero (suc j) h = omega arith
  ends (suc i) (suc j) h =
      let d : ℕ = j - suc i in
      let e : j ≡ i + 1 + d = omega arith in
      omega (arith, ap (λ (n : ℕ). n * slot_bytes z) e)

  -- in a roll of k slots
  pub index_in : (i k : ℕ) → i ≤ k → index_place z i + index_bytes ≤ roll_bytes z k
  unfolding index_place
  index_in i k h = omega (arith, ends i (suc k) (omega arith), index-first i)

  pub chain-in : (i k : ℕ) → 0 < i → i ≤ k → chain_place z i + chain_bytes z ≤ roll_bytes z k
  unfolding chain_place index_place
  chain-in i k some h = omega (arith, ends i (suc k) (omega arith), extent-is i some, slot_is)

  -- n bytes of slot j are clear of size bytes of another slot i
  pub other-clear : (i j : ℕ) → (j ≡ i → ⊥) → (b n a size : ℕ) → index_place z j ≤ b → b + n ≤ index_place z j + extent j
      → index_place z i ≤ a → a + size ≤ index_place z i + extent i → Clear b n a size
  other-clear i j other b n a size from to begin end = go (dec_lt j i)
    where
      go : Dec (j < i) → Clear b n a size
      go (yes before) = inl (omega (arith, ends j i before))
      go (no after) = inr (omega (arith, ends i j (omega arith)))

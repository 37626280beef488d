-- What stands in a roll of k slots after an index or a slot was written: that one, and all others as they were.
-- Assumes nothing.
use mathlib.Core.Path.{◌≡◌, refl, sym, ap, ap₂, ◌∙◌}
use mathlib.Core.Logic.{◌⊎◌, inl, inr}
use mathlib.Core.List.{List}
use Prim.Native.Nat.{ℕ, zero, suc, ◌+◌, ◌-◌, ◌*◌, ◌≤◌, ◌<◌, ◌^◌, min}
use native.Mathlib.Decide.{ℕ_discrete}
use native.Mathlib.Omega.{arith}
use lib.Arith.{digits_lt}
use lib.ListN.{length, take, drop, length-take, length-drop}
use lib.Seq.{get_or-take, get_or-drop, ext_get_or, sets, length-sets}
use Rattle.lsh.specs.Tabulate.{at, tabulate}
use Rattle.lsh.specs.WordSize.{WordSize, word_bytes, chain_bytes}
use Rattle.lsh.specs.Bytes.{word_at, words_of, byte_at, bytes_of}
use Rattle.lsh.specs.Block.{Chain}
use Rattle.lsh.proofs.Tabulate.{length-tabulate, at-tabulate, tabulate-cong}
use Rattle.lsh.proofs.Bytes.{Octets, word-bytes, chain-bytes, length-chain, words-of-bytes}
use Rattle.loops.proofs.Places.{at-sets-before, at-sets-after, at-sets-in}
use Rattle.checkpoints.specs.Slots.{index_bytes, slot_bytes, roll_bytes, index_place, chain_place, slot_at}
use Rattle.checkpoints.specs.Roll.{next_index, chain_in}
use Rattle.checkpoints.specs.Checkpoints.{with_index, with_slot}
use Rattle.checkpoints.proofs.Places.{Clear, extent, slot_is, extent-is, index-first, index_in, chain-in, other-clear}

-- numbers and words of the same bytes
word_same : (k : ℕ) (s t : List ℕ) (a b : ℕ) → ((q : ℕ) → q < k → at s (a + q) ≡ at t (b + q)) → word_at k s a ≡ word_at k t b
unfolding word_at
word_same zero s t a b h = refl
word_same (suc k) s t a b h =
    ap₂ (λ (x y : ℕ). x + 256 * y)
    (let p : a + 0 ≡ a = omega arith in let q : b + 0 ≡ b = omega arith in ap (at s) (sym p) ∙ h 0 (omega arith) ∙ ap (at t) q)
    (word_same k s t (a + 1) (b + 1)
    (λ q lt.
    let p : a + 1 + q ≡ a + suc q = omega arith in
    let r : b + suc q ≡ b + 1 + q = omega arith in
    ap (at s) p ∙ h (suc q) (omega arith) ∙ ap (at t) r))

words_same : (z : WordSize) (s t : List ℕ) → ((q : ℕ) → q < 16 * word_bytes z → at s q ≡ at t q) → words_of z 16 s ≡ words_of z 16 t
unfolding words_of
words_same z s t h =
    tabulate-cong 16 _ _
    (λ l lt. word_same (word_bytes z) s t (l * word_bytes z) (l * word_bytes z) (λ q lq. h (l * word_bytes z + q) (digits_lt lt lq)))

-- a place outside of what was written
at-outside : (s : List ℕ) (a : ℕ) (vs : List ℕ) (q : ℕ) → (q < a) ⊎ (a + length vs ≤ q) → at (sets s a vs) q ≡ at s q
at-outside s a vs q (inl before) = at-sets-before s a vs q before
at-outside s a vs q (inr after) = at-sets-after s a vs q after

clear_at : (s : List ℕ) (a : ℕ) (vs : List ℕ) (b n : ℕ) → Clear b n a (length vs) → (q : ℕ) → q < n → at (sets s a vs) (b + q) ≡ at s (b + q)
clear_at s a vs b n (inl h) q lt = at-outside s a vs (b + q) (inl (omega arith))
clear_at s a vs b n (inr h) q lt = at-outside s a vs (b + q) (inr (omega arith))

part-clear : (s : List ℕ) (a : ℕ) (vs : List ℕ) (b n : ℕ) → Clear b n a (length vs) → take n (drop b (sets s a vs)) ≡ take n (drop b s)
part-clear s a vs b n h =
    ext_get_or 0 (take n (drop b (sets s a vs))) (take n (drop b s))
    (length-take n (drop b (sets s a vs))
    ∙ ap (min n) (length-drop b (sets s a vs) ∙ ap (λ (k : ℕ). k - b) (length-sets s a vs) ∙ sym (length-drop b s))
    ∙ sym (length-take n (drop b s)))
    (λ q lt.
    let few : q < n = omega (arith, length-take n (drop b (sets s a vs))) in
    get_or-take n (drop b (sets s a vs)) q 0 few
    ∙ get_or-drop b (sets s a vs) q 0
    ∙ clear_at s a vs b n h q few
    ∙ sym (get_or-take n (drop b s) q 0 few ∙ get_or-drop b s q 0))

module _ (z : WordSize) (ok : Octets z) where
  -- the bytes of an index and of a chain
  index-long : (x : ℕ) → length (tabulate index_bytes (byte_at x)) ≡ index_bytes
  index-long x = length-tabulate index_bytes (byte_at x)

  -- an index and a chain that what was written is clear of
  next-clear : (s : List ℕ) (a : ℕ) (vs : List ℕ) (j : ℕ) → Clear (index_place z j) index_bytes a (length vs)
      → next_index z (sets s a vs) j ≡ next_index z s j
  unfolding next_index
  next-clear s a vs j h = word_same index_bytes (sets s a vs) s (index_place z j) (index_place z j) (clear_at s a vs (index_place z j) index_bytes h)

  chain-clear : (s : List ℕ) (a : ℕ) (vs : List ℕ) (j : ℕ) → Clear (chain_place z j) (chain_bytes z) a (length vs)
      → chain_in z (sets s a vs) j ≡ chain_in z s j
  unfolding chain_in
  chain-clear s a vs j h =
      words_same z (drop (chain_place z j) (sets s a vs)) (drop (chain_place z j) s)
      (λ q lt.
      get_or-drop (chain_place z j) (sets s a vs) q 0
      ∙ clear_at s a vs (chain_place z j) (chain_bytes z) h q (rw (chain-bytes z ok) lt)
      ∙ sym (get_or-drop (chain_place z j) s q 0))

  module _ (k : ℕ) (s : List ℕ) (size : length s ≡ roll_bytes z k) (i : ℕ) (within : i ≤ k) where
    -- an index written
    module _ (x : ℕ) where
      pub index-size : length (with_index z s i x) ≡ length s
      unfolding with_index
      index-size = length-sets s (index_place z i) (tabulate index_bytes (byte_at x))

      pub next-is : x < 2 ^ 16 → next_index z (with_index z s i x) i ≡ x
      unfolding with_index next_index
      next-is few =
          word-bytes index_bytes (sets s (index_place z i) (tabulate index_bytes (byte_at x))) (index_place z i) x few
          (λ q lt.
          at-sets-in s (index_place z i) (tabulate index_bytes (byte_at x)) q (rw (index-long x, size) (index_in z i k within)) (rw (index-long x) lt)
          ∙ at-tabulate index_bytes (byte_at x) q lt)

      -- a part of another slot
      off : (j : ℕ) → (j ≡ i → ⊥) → (b n : ℕ) → index_place z j ≤ b → b + n ≤ index_place z j + extent z j
          → Clear b n (index_place z i) (length (tabulate index_bytes (byte_at x)))
      off j other b n from to = other-clear z i j other b n (index_place z i) _ from to (omega arith) (omega (arith, index-long x, index-first z i))

      pub next-other : (j : ℕ) → (j ≡ i → ⊥) → next_index z (with_index z s i x) j ≡ next_index z s j
      unfolding with_index
      next-other j other = next-clear s (index_place z i) (tabulate index_bytes (byte_at x)) j
          (off j other (index_place z j) index_bytes (omega arith) (omega (arith, index-first z j)))

      -- another slot
      pub slot_kept : (j : ℕ) → 0 < j → (j ≡ i → ⊥) → slot_at z (with_index z s i x) j ≡ slot_at z s j
      unfolding slot_at with_index
      slot_kept j some other =
          part-clear s (index_place z i) (tabulate index_bytes (byte_at x)) (index_place z j) (slot_bytes z)
          (off j other (index_place z j) (slot_bytes z) (omega arith) (omega (arith, extent-is z j some)))

      chain-off : (j : ℕ) → 0 < j → Dec (j ≡ i) → Clear (chain_place z j) (chain_bytes z) (index_place z i) (length (tabulate index_bytes (byte_at x)))
      unfolding chain_place
      chain-off j some (yes same) = inr (omega (arith, index-long x, ap (index_place z) same))
      chain-off j some (no other) = off j other (chain_place z j) (chain_bytes z) (omega arith) (omega (arith, extent-is z j some, slot_is z))

      pub chain-kept : (j : ℕ) → 0 < j → chain_in z (with_index z s i x) j ≡ chain_in z s j
      unfolding with_index
      chain-kept j some = chain-clear s (index_place z i) (tabulate index_bytes (byte_at x)) j (chain-off j some (ℕ_discrete j i))

    -- a slot written
    module _ (some : 0 < i) (t : List ℕ) (chain : Chain z t) where
      abbrev S : List ℕ
      S = with_index z s i 0

      long : length (bytes_of z t) ≡ chain_bytes z
      long = length-chain z ok t chain.words

      -- a part of another slot
      out : (j : ℕ) → (j ≡ i → ⊥) → (b n : ℕ) → index_place z j ≤ b → b + n ≤ index_place z j + extent z j → Clear b n (chain_place z i) (length (bytes_of z t))
      unfolding chain_place
      out j other b n from to = other-clear z i j other b n (chain_place z i) _ from to (omega arith) (omega (arith, long, extent-is z i some, slot_is z))

      pub slot-size : length (with_slot z s i t) ≡ length s
      unfolding with_slot
      slot-size = length-sets S (chain_place z i) (bytes_of z t) ∙ index-size 0

      slot-next-clear : (j : ℕ) → Dec (j ≡ i) → Clear (index_place z j) index_bytes (chain_place z i) (length (bytes_of z t))
      unfolding chain_place
      slot-next-clear j (yes same) = inl (omega (arith, ap (index_place z) same))
      slot-next-clear j (no other) = out j other (index_place z j) index_bytes (omega arith) (omega (arith, index-first z j))

      pub slot_next : next_index z (with_slot z s i t) i ≡ 0
      unfolding with_slot
      slot_next = next-clear S (chain_place z i) (bytes_of z t) i (slot-next-clear i (yes refl)) ∙ next-is 0 (omega arith)

      pub slot-next-other : (j : ℕ) → (j ≡ i → ⊥) → next_index z (with_slot z s i t) j ≡ next_index z s j
      unfolding with_slot
      slot-next-other j other = next-clear S (chain_place z i) (bytes_of z t) j (slot-next-clear j (no other)) ∙ next-other 0 j other

      pub slot-chain : chain_in z (with_slot z s i t) i ≡ t
      unfolding with_slot chain_in
      slot-chain =
          words_same z (drop (chain_place z i) (sets S (chain_place z i) (bytes_of z t))) (bytes_of z t)
          (λ q lt.
          get_or-drop (chain_place z i) (sets S (chain_place z i) (bytes_of z t)) q 0
          ∙ at-sets-in S (chain_place z i) (bytes_of z t) q room (rw (long, chain-bytes z ok) lt))
          ∙ words-of-bytes z ok t chain
        where
          room : chain_place z i + length (bytes_of z t) ≤ length S
          room = rw (long, index-size 0, size) (chain-in z i k some within)

      pub slot-chain-other : (j : ℕ) → 0 < j → (j ≡ i → ⊥) → chain_in z (with_slot z s i t) j ≡ chain_in z s j
      unfolding with_slot chain_place
      slot-chain-other j some-j other =
          chain-clear S (chain_place z i) (bytes_of z t) j (out j other (chain_place z j) (chain_bytes z) (omega arith) (omega (arith, extent-is z j some-j, slot_is z)))
          ∙ chain-kept 0 j some-j

      pub slot-kept-other : (j : ℕ) → 0 < j → (j ≡ i → ⊥) → slot_at z (with_slot z s i t) j ≡ slot_at z s j
      unfolding slot_at with_slot chain_place
      slot-kept-other j some-j other =
          part-clear S (chain_place z i) (bytes_of z t) (index_place z j) (slot_bytes z) (out j other (index_place z j) (slot_bytes z) (omega arith) (omega (arith, extent-is z j some-j)))
          ∙ slot_kept 0 j some-j other

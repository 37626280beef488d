-- Rows for two blocks in one array, in two halves: while one block is run from its half, the rows of another are worked out in the other half.
-- Assumes nothing.
use mathlib.Core.Path.{◌≡◌, refl, sym, ap, ap₂, ◌∙◌}
use mathlib.Core.List.{List}
use mathlib.Core.Logic.{◌⊎◌, inl, inr}
use Prim.Native.Nat.{ℕ, zero, suc, ◌+◌, ◌-◌, ◌*◌, ◌≤◌, ◌<◌}
use native.Mathlib.Numerals.{add-one}
use native.Mathlib.Decide.{ℕ_discrete}
use native.Mathlib.Omega.{arith}
use lib.ListN.{length}
use lib.Seq.{sets, length-sets, take_all}
use Rattle.lsh.specs.WordSize.{WordSize}
use Rattle.lsh.specs.Step.{unstep}
use Rattle.lsh.specs.Expansion.{next_sub_message, sub_message}
use Rattle.lsh.specs.Block.{unsteps}
use Rattle.lsh.proofs.Tabulate.{length-tabulate}
use Rattle.loops.specs.Rows.{row}
use Rattle.loops.specs.Halves.{ExpandedFrom, KeptBut, loaded}
use Rattle.loops.proofs.Rows.{sub-next, rows_none, row_put, row_below, row-above}

length-row : (b : List ℕ) (i : ℕ) → length (row b i) ≡ 16
unfolding row
length-row b i = length-tabulate 16 _

-- what is kept
pub kept-none : (m : List ℕ) (n h : ℕ) → KeptBut m m n h
kept-none m n h = record { len = refl; below = λ q lt. refl; above = λ q le. refl }

pub kept_more : {m₀ m : List ℕ} {n h : ℕ} (r : List ℕ) (p : ℕ) {o : List ℕ} → KeptBut m₀ m n h → o ≡ sets m (p * 16) r → length r ≡ 16 → n ≤ p → p < n + h
    → KeptBut m₀ o n h
kept_more {m₀} {m} {n} {h} r p {o} k is sixteen from to =
    record {
      len = ap length is ∙ length-sets m (p * 16) r ∙ k.len;
      below = λ q lt. row_below m r p is sixteen q (omega arith) ∙ k.below q lt;
      above = λ q le. row-above m r p is sixteen q (omega arith) ∙ k.above q le;
    }

-- the block of one half is kept while the other half is written
pub half-kept : {z : WordSize} {b m o : List ℕ} {s h k n : ℕ} → (k ≡ 0) ⊎ (k ≡ h) → n ≡ h - k → s < h → ExpandedFrom z b m k s → KeptBut m o n h → ExpandedFrom z b o k s
half-kept {k = k} (inl e) en lt x kept = record { rows = λ j le. kept.below (k + j) (omega arith) ∙ x.rows j le }
half-kept {k = k} (inr e) en lt x kept = record { rows = λ j le. kept.above (k + j) (omega arith) ∙ x.rows j le }

pub other_half : {h k n : ℕ} → (k ≡ 0) ⊎ (k ≡ h) → n ≡ h - k → (n ≡ 0) ⊎ (n ≡ h)
other_half (inl e) en = inr (omega arith)
other_half (inr e) en = inl (omega arith)

-- M_0 and M_1 of a block are put into their rows
pub loaded-rows : (z : WordSize) (m b : List ℕ) (n : ℕ) {o : List ℕ} → length b ≡ 32 → n * 16 + 32 ≤ length m → o ≡ loaded m n b → ExpandedFrom z b o n 1
unfolding loaded
loaded-rows z m b n {o} len room is = record { rows = go }
  where
    u : List ℕ
    u = sets m (n * 16) (row b 0)

    sixteen : (i : ℕ) → length (row b i) ≡ 16
    sixteen = length-row b

    words : (i : ℕ) → i ≤ 1 → row b i ≡ sub_message z b i
    words i le = rows_none z b (omega arith) i le ∙ ap (λ (c : List ℕ). sub_message z c i) (take_all 32 b (omega arith))

    go : (j : ℕ) → j ≤ 1 → row o (n + j) ≡ sub_message z b j
    go zero le =
        let same : n + 0 ≡ n = omega arith in
        ap (row o) same ∙ row_below u (row b 1) (n + 1) is (sixteen 1) n (omega arith) ∙ row_put m (row b 0) n refl (sixteen 0) (omega arith) ∙ words 0 le
    go (suc zero) le =
        row_put u (row b 1) (n + 1) is (sixteen 1) (omega (arith, length-sets m (n * 16) (row b 0))) ∙ words 1 le
    go (suc (suc j)) le = absurd (omega arith)

pub loaded-kept : (m b : List ℕ) (n h : ℕ) {o : List ℕ} → o ≡ loaded m n b → 2 ≤ h → KeptBut m o n h
unfolding loaded
loaded-kept m b n h is two =
    kept_more (row b 1) (n + 1) (kept_more (row b 0) n (kept-none m n h) refl (length-row b 0) (omega arith) (omega arith)) is (length-row b 1) (omega arith) (omega arith)

pub length-next : (z : WordSize) (p q : List ℕ) → length (next_sub_message z p q) ≡ 16
unfolding next_sub_message
length-next z p q = length-tabulate 16 _

-- the next row of the block that is worked out
pub from_more : {z : WordSize} {b m : List ℕ} {n : ℕ} (i : ℕ) {o : List ℕ} → ExpandedFrom z b m n (i + 1) → (n + i + 3) * 16 ≤ length m
    → o ≡ sets m ((n + i + 2) * 16) (next_sub_message z (row m (n + i + 1)) (row m (n + i))) → ExpandedFrom z b o n (i + 1 + 1)
from_more {z} {b} {m} {n} i {o} e room is = record { rows = λ j le. go j le (ℕ_discrete j (i + 1 + 1)) }
  where
    r : List ℕ
    r = next_sub_message z (row m (n + i + 1)) (row m (n + i))

    sixteen : length r ≡ 16
    sixteen = length-next z _ _

    made : r ≡ sub_message z b (i + 1 + 1)
    made =
        let one : n + i + 1 ≡ n + (i + 1) = omega arith in
        sub-next z b i refl (ap (row m) one ∙ e.rows (i + 1) (omega arith)) (e.rows i (omega arith))

    go : (j : ℕ) → j ≤ i + 1 + 1 → Dec (j ≡ i + 1 + 1) → row o (n + j) ≡ sub_message z b j
    go j le (yes last) =
        let place : n + j ≡ n + i + 2 = omega arith in
        ap (row o) place ∙ row_put m r (n + i + 2) is sixteen (omega arith) ∙ made ∙ ap (sub_message z b) (sym last)
    go j le (no before) = row_below m r (n + i + 2) is sixteen (n + j) (omega arith) ∙ e.rows j (omega arith)

-- fewer of them
pub from-up_to : {z : WordSize} {b m : List ℕ} {k j s : ℕ} → ExpandedFrom z b m k j → s ≤ j → ExpandedFrom z b m k s
from-up_to e le = record { rows = λ i hi. e.rows i (omega arith) }

-- a step of the block that is run, of i + 1 that are left
pub unstepped-from : {z : WordSize} {b m u v : List ℕ} {k s i : ℕ} (j : ℕ) (r : List ℕ) → ExpandedFrom z b m k s → j ≤ s → i ≡ j → unsteps z b (j + 1) r ≡ v
    → u ≡ unstep z j (row m (k + j)) r → unsteps z b i u ≡ v
unfolding unsteps
unstepped-from {z} {b} {m} {u} {v} {k} {s} {i} j r e le left h is =
    ap₂ (unsteps z b) left (is ∙ ap (λ (q : List ℕ). unstep z j q r) (e.rows j le)) ∙ ap (λ (l : ℕ). unsteps z b l r) (sym (add-one j)) ∙ h

-- none is left
pub unstepped-last : (z : WordSize) (b r : List ℕ) {v : List ℕ} {j : ℕ} → j ≡ 0 → unsteps z b j r ≡ v → r ≡ v
unfolding unsteps
unstepped-last z b r e h = ap (λ (j : ℕ). unsteps z b j r) (sym e) ∙ h

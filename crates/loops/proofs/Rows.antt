-- The array of the sub-messages, as it is worked out row by row.
-- Assumes nothing.
use mathlib.Core.Path.{◌≡◌, sym, ap, ap₂, ◌∙◌, subst}
use mathlib.Core.List.{List}
use Prim.Native.Nat.{ℕ, zero, suc, ◌+◌, ◌*◌, ◌≤◌, ◌<◌}
use native.Mathlib.Nat.{zero-add}
use native.Mathlib.Decide.{ℕ_discrete}
use native.Mathlib.Omega.{arith}
use lib.ListN.{length, take, drop, length-drop}
use lib.Seq.{sets, length-sets, sets-eq, take-append_seam, length-take-le, get_or-take, get_or-drop}
use Rattle.lsh.specs.Tabulate.{at, tabulate}
use Rattle.lsh.specs.WordSize.{WordSize}
use Rattle.lsh.specs.Expansion.{next_sub_message, sub_messages, sub_message}
use Rattle.lsh.proofs.Tabulate.{length-tabulate, tabulate-ext, tabulate-cong}
use Rattle.loops.specs.Rows.{expanded_words, row, Expanded}
use Rattle.loops.proofs.Places.{at-sets-before, at-sets-after, at-sets-in}

-- a sub-message from the two before it (8)
pub sub-next : (z : WordSize) (b : List ℕ) {p q r : List ℕ} (j : ℕ) → r ≡ next_sub_message z p q → p ≡ sub_message z b (j + 1) → q ≡ sub_message z b j
    → r ≡ sub_message z b (j + 1 + 1)
unfolding sub_message sub_messages
sub-next z b {p} {q} {r} j er ep eq =
    let one : j + 1 ≡ suc j = omega arith in
    let two : j + 1 + 1 ≡ suc (suc j) = omega arith in
    er ∙ ap₂ (next_sub_message z) (ep ∙ ap (sub_message z b) one) eq ∙ ap (sub_message z b) (sym two)

-- M_0 and M_1 are the first 32 words (7)
pub rows_none : (z : WordSize) (m : List ℕ) → 32 ≤ length m → (i : ℕ) → i ≤ 1 → row m i ≡ sub_message z (take 32 m) i
unfolding row sub_message sub_messages
rows_none z m room = go
  where
    long : length (take 32 m) ≡ 32
    long = length-take-le 32 m room

    word : (k : ℕ) → k < 32 → at m k ≡ at (take 32 m) k
    word k hk = sym (get_or-take 32 m k 0 hk)

    go : (i : ℕ) → i ≤ 1 → tabulate 16 (λ l. at m (i * 16 + l)) ≡ sub_message z (take 32 m) i
    go zero le =
        tabulate-ext 16 _ _ (length-take-le 16 (take 32 m) (rw long (omega arith)))
        λ l hl. ap (at m) (zero-add l) ∙ word l (omega arith) ∙ sym (get_or-take 16 (take 32 m) l 0 hl)
    go (suc zero) le =
        tabulate-ext 16 _ _ (length-drop 16 (take 32 m) ∙ rw long) (λ l hl. word (16 + l) (omega arith) ∙ sym (get_or-drop 16 (take 32 m) l 0))
    go (suc (suc i)) le = absurd (omega arith)

pub expanded-none : (z : WordSize) (m : List ℕ) → length m ≡ expanded_words z → 0 < z.steps → Expanded z (take 32 m) m 1
unfolding expanded_words
expanded-none z m len pos = record { len = len; rows = rows_none z m (omega arith) }

-- a row that is put, and the others
module _ (m r : List ℕ) (p : ℕ) {o : List ℕ} (is : o ≡ sets m (p * 16) r) (sixteen : length r ≡ 16) where
  pub row_put : p * 16 + 16 ≤ length m → row o p ≡ r
  unfolding row
  row_put room =
      tabulate-ext 16 _ r sixteen
      (λ l hl. ap (λ (s : List ℕ). at s (p * 16 + l)) is ∙ at-sets-in m (p * 16) r l (rw sixteen room) (rw sixteen hl))

  pub row_below : (q : ℕ) → q < p → row o q ≡ row m q
  unfolding row
  row_below q lt =
      tabulate-cong 16 _ _
      (λ l hl. ap (λ (s : List ℕ). at s (q * 16 + l)) is ∙ at-sets-before m (p * 16) r (q * 16 + l) (omega arith))

  pub row-above : (q : ℕ) → p < q → row o q ≡ row m q
  unfolding row
  row-above q lt =
      tabulate-cong 16 _ _
      (λ l hl. ap (λ (s : List ℕ). at s (q * 16 + l)) is ∙ at-sets-after m (p * 16) r (q * 16 + l) (rw sixteen (omega arith)))

-- the length of a sub-message that is worked out
length-sub : (z : WordSize) (b : List ℕ) (j : ℕ) → length (sub_message z b (j + 1 + 1)) ≡ 16
unfolding sub_message sub_messages next_sub_message
length-sub z b j =
    let two : j + 1 + 1 ≡ suc (suc j) = omega arith in
    ap (λ (i : ℕ). length (sub_message z b i)) two ∙ length-tabulate 16 _

-- the next row is put behind those that are there, where there is room
pub rows_more : (z : WordSize) (b m : List ℕ) (j : ℕ) (o r : List ℕ) → ((i : ℕ) → i ≤ j + 1 → row m i ≡ sub_message z b i) → (j + 3) * 16 ≤ length m
    → r ≡ sub_message z b (j + 1 + 1) → o ≡ sets m ((j + 2) * 16) r → (i : ℕ) → i ≤ j + 1 + 1 → row o i ≡ sub_message z b i
rows_more z b m j o r rows room er eo i hi = go (ℕ_discrete i (j + 1 + 1))
  where
    sixteen : length r ≡ 16
    sixteen = ap length er ∙ length-sub z b j

    go : Dec (i ≡ j + 1 + 1) → row o i ≡ sub_message z b i
    go (yes last) =
        let place : i ≡ j + 2 = omega arith in
        ap (row o) place ∙ row_put m r (j + 2) eo sixteen (omega arith) ∙ er ∙ ap (sub_message z b) (sym last)
    go (no before) = row_below m r (j + 2) eo sixteen i (omega arith) ∙ rows i (omega arith)

pub expanded-more : {z : WordSize} {b m : List ℕ} (j : ℕ) (o r : List ℕ) → Expanded z b m (j + 1) → j + 2 ≤ z.steps
    → r ≡ sub_message z b (j + 1 + 1) → o ≡ sets m ((j + 2) * 16) r → Expanded z b o (j + 1 + 1)
unfolding expanded_words
expanded-more {z} {b} {m} j o r h le er eo =
    record {
      len = ap length eo ∙ length-sets m ((j + 2) * 16) r ∙ h.len;
      rows = rows_more z b m j o r h.rows (rw h.len (omega arith)) er eo;
    }

-- fewer of them
pub expanded-up_to : {z : WordSize} {b m : List ℕ} {j s : ℕ} → Expanded z b m j → s ≤ j → Expanded z b m s
expanded-up_to h le = record { len = h.len; rows = λ i hi. h.rows i (omega arith) }

-- a block whose words were put before the rest
pub take-stored : (m b : List ℕ) → length b ≡ 32 → 32 ≤ length m → take 32 (sets m 0 b) ≡ b
take-stored m b len room = ap₂ take (sym len) (sets-eq b m 0 (rw len room)) ∙ take-append_seam b (drop (0 + length b) m)

pub expanded-stored : {z : WordSize} (m b : List ℕ) {n o : List ℕ} {s : ℕ} → length b ≡ 32 → 32 ≤ length m → n ≡ sets m 0 b
    → Expanded z (take 32 n) o s → Expanded z b o s
expanded-stored {z} m b {n} {o} {s} len room is h =
    subst (λ (c : List ℕ). Expanded z c o s) (ap (take 32) is ∙ take-stored m b len room) h

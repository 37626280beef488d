-- Lists that are given by index: their lengths, entries, and when another list is one of them.
-- Assumes nothing.
use mathlib.Core.Path.{◌≡◌, refl, sym, ap, ap₂, ◌∙◌, subst, subst⁻¹}
use mathlib.Core.List.{List}
use Prim.Native.Nat.{ℕ, zero, suc, ◌+◌, ◌-◌, ◌≤◌, ◌<◌}
use native.Mathlib.Nat.{add-zero, zero-add, suc-add, add-suc, not-suc-le-zero, le_of_suc-le-suc}
use native.Mathlib.Decide.{dec_lt}
use native.Mathlib.Omega.{arith}
use lib.ListN.{length, length-append, get_or-append, get_or-eq_default}
use lib.Seq.{ext_get_or, get_or-append-add}
use Rattle.lsh.specs.Tabulate.{at, tabulate, tabulate_from}
use Rattle.lsh.specs.Lane.{Lane}
use Rattle.lsh.specs.Step.{lane_at, lanes}

length_from : (n i : ℕ) (f : ℕ → ℕ) → length (tabulate_from i n f) ≡ n
unfolding tabulate_from
length_from zero i f = refl
length_from (suc n) i f = ap suc (length_from n (suc i) f)

at_from : (n i : ℕ) (f : ℕ → ℕ) (k : ℕ) → k < n → at (tabulate_from i n f) k ≡ f (i + k)
unfolding tabulate_from
at_from zero i f k h = absurd (not-suc-le-zero h)
at_from (suc n) i f zero h = ap f (sym (add-zero i))
at_from (suc n) i f (suc k) h = at_from n (suc i) f k (le_of_suc-le-suc h) ∙ ap f (suc-add i k ∙ sym (add-suc i k))

pub length-tabulate : (n : ℕ) (f : ℕ → ℕ) → length (tabulate n f) ≡ n
unfolding tabulate
length-tabulate n f = length_from n 0 f

pub at-tabulate : (n : ℕ) (f : ℕ → ℕ) (k : ℕ) → k < n → at (tabulate n f) k ≡ f k
unfolding tabulate
at-tabulate n f k h = at_from n 0 f k h ∙ ap f (zero-add k)

-- a list that has these entries is this list
pub tabulate-ext : (n : ℕ) (f : ℕ → ℕ) (t : List ℕ) → length t ≡ n → ((k : ℕ) → k < n → f k ≡ at t k) → tabulate n f ≡ t
tabulate-ext n f t e h =
    ext_get_or 0 (tabulate n f) t (length-tabulate n f ∙ sym e)
    λ i lt. let l : i < n = subst (λ (m : ℕ). i < m) (length-tabulate n f) lt in at-tabulate n f i l ∙ h i l

-- two rules that agree below n give one list
pub tabulate-cong : (n : ℕ) (f g : ℕ → ℕ) → ((k : ℕ) → k < n → f k ≡ g k) → tabulate n f ≡ tabulate n g
tabulate-cong n f g h = tabulate-ext n f (tabulate n g) (length-tabulate n g) (λ k lt. h k lt ∙ sym (at-tabulate n g k lt))

-- what holds of 0 and of every f k holds of every entry
pub tabulate-all : (P : ℕ → Type 0) (n : ℕ) (f : ℕ → ℕ) → P 0 → ((k : ℕ) → k < n → P (f k)) → (k : ℕ) → P (at (tabulate n f) k)
tabulate-all P n f z h k = go (dec_lt k n)
  where
    go : Dec (k < n) → P (at (tabulate n f) k)
    go (yes lt) = rw (at-tabulate n f k lt) (h k lt)
    go (no ge) =
        let out : length (tabulate n f) ≤ k = rw (length-tabulate n f) (omega arith) in
        rw (get_or-eq_default (tabulate n f) 0 out) z

module _ (f : ℕ → Lane) where
  pub length-lanes : length (lanes f) ≡ 16
  unfolding lanes
  length-lanes =
      length-append (tabulate 8 (λ l. (f l).x)) (tabulate 8 (λ l. (f l).y))
      ∙ ap₂ (λ (a b : ℕ). a + b) (length-tabulate 8 (λ l. (f l).x)) (length-tabulate 8 (λ l. (f l).y))

  pub lanes-x : (l : ℕ) → l < 8 → at (lanes f) l ≡ (f l).x
  unfolding lanes
  lanes-x l h =
      let lt : l < length (tabulate 8 (λ k. (f k).x)) = rw (length-tabulate 8 (λ k. (f k).x)) h in
      get_or-append (tabulate 8 (λ k. (f k).x)) (tabulate 8 (λ k. (f k).y)) 0 l lt ∙ at-tabulate 8 (λ k. (f k).x) l h

  pub lanes-y : (l : ℕ) → l < 8 → at (lanes f) (l + 8) ≡ (f l).y
  unfolding lanes
  lanes-y l h =
      let e : l + 8 ≡ length (tabulate 8 (λ k. (f k).x)) + l = rw (length-tabulate 8 (λ k. (f k).x)) (omega arith) in
      ap (λ (n : ℕ). at (lanes f) n) e ∙ get_or-append-add (tabulate 8 (λ k. (f k).x)) (tabulate 8 (λ k. (f k).y)) l 0
      ∙ at-tabulate 8 (λ k. (f k).y) l h

-- a property of sixteen places, from the eight of X and the eight of Y
pub by-lanes : (P : ℕ → Type 0) → ((l : ℕ) → l < 8 → P l) → ((l : ℕ) → l < 8 → P (l + 8)) → (k : ℕ) → k < 16 → P k
by-lanes P hx hy k h = go (dec_lt k 8)
  where
    go : Dec (k < 8) → P k
    go (yes lt) = hx k lt
    go (no ge) =
        let e : k - 8 + 8 ≡ k = omega arith in
        subst P e (hy (k - 8) (omega arith))

-- a list that has these lanes is this list
pub lanes-ext : (f : ℕ → Lane) (t : List ℕ) → length t ≡ 16 → ((l : ℕ) → l < 8 → f l ≡ lane_at t l) → lanes f ≡ t
lanes-ext f t e h =
    ext_get_or 0 (lanes f) t (length-lanes f ∙ sym e)
    λ i lt.
    by-lanes (λ (k : ℕ). at (lanes f) k ≡ at t k)
    (λ l hl. lanes-x f l hl ∙ ap (λ (p : Lane). p.x) (h l hl))
    (λ l hl. lanes-y f l hl ∙ ap (λ (p : Lane). p.y) (h l hl))
    i
    (subst (λ (m : ℕ). i < m) (length-lanes f) lt)

-- what holds of 0 and of every lane's words holds of every word
pub lanes_all : (P : ℕ → Type 0) (f : ℕ → Lane) → P 0 → ((l : ℕ) → l < 8 → P (f l).x) → ((l : ℕ) → l < 8 → P (f l).y)
    → (k : ℕ) → P (at (lanes f) k)
lanes_all P f z hx hy k = go (dec_lt k 16)
  where
    go : Dec (k < 16) → P (at (lanes f) k)
    go (yes lt) =
        by-lanes (λ (i : ℕ). P (at (lanes f) i)) (λ l h. subst⁻¹ P (lanes-x f l h) (hx l h)) (λ l h. subst⁻¹ P (lanes-y f l h) (hy l h)) k lt
    go (no ge) =
        let out : length (lanes f) ≤ k = rw (length-lanes f) (omega arith) in
        rw (get_or-eq_default (lanes f) 0 out) z

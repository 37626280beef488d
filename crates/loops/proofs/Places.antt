-- A loop that stores f k at place p k, for k = 0, 1, ..
-- Assumes nothing.
use mathlib.Core.Path.{◌≡◌, refl, sym, ap, ◌∙◌, subst}
use mathlib.Core.List.{List, [], ◌∷◌, ◌++◌}
use Prim.Native.Nat.{ℕ, zero, suc, ◌+◌, ◌-◌, ◌≤◌, ◌<◌, zero-le}
use native.Mathlib.Nat.{add-zero, zero-add, add-suc, suc-add, not-suc-le-zero}
use native.Mathlib.Decide.{ℕ_discrete, dec_lt}
use native.Mathlib.Omega.{arith}
use lib.ListN.{length, drop, set, length-set}
use lib.Seq.{get_or-set_same, get_or-set_other, ext_get_or, sets, length-sets, sets-eq}
use Rattle.lsh.specs.Tabulate.{at, tabulate}
use Rattle.lsh.specs.WordSize.{place_of}
use Rattle.lsh.proofs.Tabulate.{length-tabulate, at-tabulate, tabulate-ext}
use Rattle.lsh.proofs.Permutation.{Permutation}

-- i of n stores are done, and every other place is as it was
pub record Placed (n : ℕ) (p f : ℕ → ℕ) (m₀ m : List ℕ) (i : ℕ) : Type 0 where
  pub len : length m ≡ length m₀
  pub up_to : i ≤ n
  pub done : (k : ℕ) → k < i → at m (p k) ≡ f k
  pub rest : (q : ℕ) → ((k : ℕ) → k < i → q ≡ p k → ⊥) → at m q ≡ at m₀ q

pub placed-none : (n : ℕ) (p f : ℕ → ℕ) (m : List ℕ) → Placed n p f m m 0
placed-none n p f m =
    record { len = refl; up_to = zero-le; done = λ k h. absurd (not-suc-le-zero h); rest = λ q other. refl }

pub placed-more : {n : ℕ} {p f : ℕ → ℕ} {m₀ m : List ℕ} {i : ℕ} (v : ℕ) → Placed n p f m₀ m i → i < n → p i < length m₀
    → ((k : ℕ) → k < i → p k ≡ p i → ⊥) → v ≡ f i → Placed n p f m₀ (set m (p i) v) (i + 1)
placed-more {n} {p} {f} {m₀} {m} {i} v h lt inside apart e =
    record {
      len = length-set m (p i) v ∙ h.len;
      up_to = omega arith;
      done = λ k hk. go k hk (ℕ_discrete k i);
      rest = λ q other.
          get_or-set_other m (p i) q v 0 (other i (omega arith)) ∙ h.rest q (λ k hk. other k (omega arith));
    }
  where
    go : (k : ℕ) → k < i + 1 → Dec (k ≡ i) → at (set m (p i) v) (p k) ≡ f k
    go k hk (yes same) =
        let within : p i < length m = rw h.len inside in
        ap (λ (j : ℕ). at (set m (p i) v) (p j)) same ∙ get_or-set_same m (p i) v 0 within ∙ e ∙ ap f (sym same)
    go k hk (no other) =
        let less : k < i = omega arith in
        get_or-set_other m (p i) (p k) v 0 (apart k less) ∙ h.done k less

-- stores at 0, 1, .. fill a list

pub filled_more : {n : ℕ} {f : ℕ → ℕ} {m₀ m : List ℕ} {i : ℕ} (v : ℕ) → Placed n (λ k. k) f m₀ m i → i < n → n ≤ length m₀
    → v ≡ f i → Placed n (λ k. k) f m₀ (set m i v) (i + 1)
filled_more v h lt room e = placed-more v h lt (omega arith) (λ k less same. omega arith) e

pub filled-all : {n : ℕ} {f : ℕ → ℕ} {m₀ m : List ℕ} {i : ℕ} → Placed n (λ k. k) f m₀ m i → n ≤ i → length m₀ ≡ n → m ≡ tabulate n f
filled-all {n} {f} {m₀} {m} {i} h le e =
    sym (tabulate-ext n f m (h.len ∙ e) (λ k hk. sym (h.done k (omega arith))))

-- several stores at a time
pub filled-several : {n : ℕ} {f : ℕ → ℕ} {m₀ m : List ℕ} {i : ℕ} (vs : List ℕ) → Placed n (λ k. k) f m₀ m i → i + length vs ≤ n → n ≤ length m₀
    → ((k : ℕ) → k < length vs → at vs k ≡ f (i + k)) → Placed n (λ k. k) f m₀ (sets m i vs) (i + length vs)
filled-several {n} {f} {m₀} {m} {i} [] h le room e =
    subst (Placed n (λ k. k) f m₀ m) (sym (add-zero i)) h
filled-several {n} {f} {m₀} {m} {i} (v ∷ vs) h le room e =
    let next : i + 1 ≡ suc i = omega arith in
    let first : v ≡ f i = e 0 (omega arith) ∙ ap f (add-zero i) in
    let more : Placed n (λ k. k) f m₀ (set m i v) (suc i) = subst (Placed n (λ k. k) f m₀ (set m i v)) next (filled_more v h (omega arith) room first) in
    subst (Placed n (λ k. k) f m₀ (sets (set m i v) (suc i) vs)) (omega arith)
    (filled-several vs more (omega arith) room (λ k hk. e (suc k) (omega arith) ∙ ap f (omega arith)))

-- stores by a permutation

pub scattered-more : {π : List ℕ} {f : ℕ → ℕ} {m₀ m : List ℕ} {i : ℕ} (v : ℕ) → Permutation π → Placed 16 (at π) f m₀ m i → i < 16
    → length m₀ ≡ 16 → v ≡ f i → Placed 16 (at π) f m₀ (set m (at π i) v) (i + 1)
scattered-more {π} {f} {m₀} {m} {i} v perm h lt len e =
    placed-more v h lt (rw len (perm.inside i))
    (λ k less same.
    let z : k ≡ i = sym (perm.place_at k (omega arith)) ∙ ap (λ (q : ℕ). place_of q π) same ∙ perm.place_at i lt in
    omega arith)
    e

pub scattered-all : {π : List ℕ} {f : ℕ → ℕ} {m₀ m : List ℕ} {i : ℕ} → Permutation π → Placed 16 (at π) f m₀ m i → 16 ≤ i → length m₀ ≡ 16
    → m ≡ tabulate 16 (λ l. f (place_of l π))
scattered-all {π} {f} {m₀} {m} {i} perm h le len =
    sym (tabulate-ext 16 (λ l. f (place_of l π)) m (h.len ∙ len)
    λ k hk.
    let inside : place_of k π < 16 = perm.place_inside k hk in
    sym (h.done (place_of k π) (omega arith)) ∙ ap (at m) (perm.at_place k hk))

-- what stands in a list after vs was stored from place a on

pub at-sets-before : (m : List ℕ) (a : ℕ) (vs : List ℕ) (q : ℕ) → q < a → at (sets m a vs) q ≡ at m q
at-sets-before m a [] q h = refl
at-sets-before m a (v ∷ vs) q h =
    at-sets-before (set m a v) (suc a) vs q (omega arith) ∙ get_or-set_other m a q v 0 (λ e. omega arith)

pub at-sets-after : (m : List ℕ) (a : ℕ) (vs : List ℕ) (q : ℕ) → a + length vs ≤ q → at (sets m a vs) q ≡ at m q
at-sets-after m a [] q h = refl
at-sets-after m a (v ∷ vs) q h =
    at-sets-after (set m a v) (suc a) vs q (omega arith) ∙ get_or-set_other m a q v 0 (λ e. omega arith)

pub at-sets-in : (m : List ℕ) (a : ℕ) (vs : List ℕ) (k : ℕ) → a + length vs ≤ length m → k < length vs → at (sets m a vs) (a + k) ≡ at vs k
at-sets-in m a [] k room h = absurd (not-suc-le-zero h)
at-sets-in m a (v ∷ vs) zero room h =
    at-sets-before (set m a v) (suc a) vs (a + 0) (omega arith)
    ∙ ap (at (set m a v)) (add-zero a)
    ∙ get_or-set_same m a v 0 (omega arith)
at-sets-in m a (v ∷ vs) (suc k) room h =
    ap (at (sets (set m a v) (suc a) vs)) (add-suc a k ∙ sym (suc-add a k))
    ∙ at-sets-in (set m a v) (suc a) vs k (rw (length-set m a v) (omega arith)) (omega arith)

-- stores from place a on
pub stored-all : (a : ℕ) {n : ℕ} {f : ℕ → ℕ} {m₀ m : List ℕ} {i : ℕ} → Placed n (λ k. a + k) f m₀ m i → n ≤ i → a + n ≤ length m₀
    → m ≡ sets m₀ a (tabulate n f)
stored-all a {n} {f} {m₀} {m} {i} h le room =
    ext_get_or 0 m (sets m₀ a vs) (h.len ∙ sym (length-sets m₀ a vs)) (λ q lt. go q (dec_lt q a) (dec_lt q (a + n)))
  where
    vs : List ℕ
    vs = tabulate n f

    len : length vs ≡ n
    len = length-tabulate n f

    go : (q : ℕ) → Dec (q < a) → Dec (q < a + n) → at m q ≡ at (sets m₀ a vs) q
    go q (yes before) d = h.rest q (λ k hk e. omega arith) ∙ sym (at-sets-before m₀ a vs q before)
    go q (no from) (yes within) =
        let k : ℕ = q - a in
        let e : q ≡ a + k = omega arith in
        let hk : k < n = omega arith in
        ap (at m) e ∙ h.done k (omega arith)
        ∙ sym (ap (at (sets m₀ a vs)) e ∙ at-sets-in m₀ a vs k (rw len room) (rw len hk) ∙ at-tabulate n f k hk)
    go q (no from) (no after) =
        h.rest q (λ k hk e. let u : i ≤ n = h.up_to in omega arith) ∙ sym (at-sets-after m₀ a vs q (rw len (omega arith)))

-- a copy of r
pub copied_all : (a : ℕ) (r : List ℕ) {n : ℕ} {m₀ m : List ℕ} {i : ℕ} → Placed n (λ k. a + k) (at r) m₀ m i → n ≤ i → a + n ≤ length m₀ → length r ≡ n
    → m ≡ sets m₀ a r
copied_all a r {n} {m₀} {m} {i} h le room e = stored-all a h le room ∙ ap (sets m₀ a) (tabulate-ext n (at r) r e (λ k lt. refl))

-- stores at 0, 1, .. into the front of a longer list
pub stored-front : {n : ℕ} {f : ℕ → ℕ} {m₀ m : List ℕ} {i : ℕ} → Placed n (λ k. k) f m₀ m i → n ≤ i → n ≤ length m₀ → m ≡ sets m₀ 0 (tabulate n f)
stored-front {n} {f} {m₀} {m} {i} h le room =
    stored-all 0 (subst (λ (p : ℕ → ℕ). Placed n p f m₀ m i) (λ d k. sym (zero-add k) d) h) le (rw (zero-add n) room)

pub front-stored : {n : ℕ} {f : ℕ → ℕ} {m₀ m : List ℕ} {i : ℕ} → Placed n (λ k. k) f m₀ m i → n ≤ i → n ≤ length m₀ → m ≡ tabulate n f ++ drop n m₀
front-stored {n} {f} {m₀} h le room =
    let size : length (tabulate n f) ≡ n = length-tabulate n f in
    stored-front h le room
    ∙ sets-eq (tabulate n f) m₀ 0 (omega arith)
    ∙ ap (λ (k : ℕ). tabulate n f ++ drop k m₀) (zero-add (length (tabulate n f)) ∙ size)

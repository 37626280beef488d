-- A loop that mixes lane after lane: each turn stores the words X and Y of one.
-- Assumes nothing.
use mathlib.Core.Path.{◌≡◌, sym, ◌∙◌, subst}
use mathlib.Core.List.{List}
use Prim.Native.Nat.{ℕ, ◌+◌, ◌≤◌, ◌<◌, zero-le}
use native.Mathlib.Nat.{not-suc-le-zero}
use native.Mathlib.Decide.{ℕ_discrete}
use native.Mathlib.Omega.{arith}
use lib.ListN.{length, set, length-set}
use lib.Seq.{get_or-set_same, get_or-set_other}
use Rattle.lsh.specs.Tabulate.{at}
use Rattle.lsh.specs.Lane.{Lane, lane}
use Rattle.lsh.specs.Step.{lane_at, lanes}
use Rattle.lsh.proofs.Tabulate.{lanes-ext}

-- the lanes below i are those of f
pub record Laned (f : ℕ → Lane) (r : List ℕ) (i : ℕ) : Type 0 where
  pub len : length r ≡ 16
  pub up_to : i ≤ 8
  pub done : (k : ℕ) → k < i → lane_at r k ≡ f k

pub laned-none : (f : ℕ → Lane) (r : List ℕ) → length r ≡ 16 → Laned f r 0
laned-none f r e = record { len = e; up_to = zero-le; done = λ k h. absurd (not-suc-le-zero h) }

pub laned-more : {f : ℕ → Lane} {r : List ℕ} {i : ℕ} (x y : ℕ) → Laned f r i → i < 8 → lane x y ≡ f i
    → Laned f (set (set r i x) (i + 8) y) (i + 1)
laned-more {f} {r} {i} x y h lt e =
    record {
      len = length-set (set r i x) (i + 8) y ∙ length-set r i x ∙ h.len;
      up_to = omega arith;
      done = λ k hk. go k hk (ℕ_discrete k i);
    }
  where
    s : List ℕ
    s = set (set r i x) (i + 8) y

    low : (k : ℕ) → k < 8 → at s k ≡ at (set r i x) k
    low k hk = get_or-set_other (set r i x) (i + 8) k y 0 (omega arith)

    go : (k : ℕ) → k < i + 1 → Dec (k ≡ i) → lane_at s k ≡ f k
    go k hk (yes p) =
        let first : i < length r = rw h.len (omega arith) in
        let second : i + 8 < length (set r i x) = rw (length-set r i x, h.len) (omega arith) in
        let ex : at s i ≡ x = low i lt ∙ get_or-set_same r i x 0 first in
        let ey : at s (i + 8) ≡ y = get_or-set_same (set r i x) (i + 8) y 0 second in
        subst (λ (m : ℕ). lane_at s m ≡ f m) (sym p) ((λ d. lane (ex d) (ey d)) ∙ e)
    go k hk (no p) =
        let less : k < i = omega arith in
        let ex : at s k ≡ at r k = low k (omega arith) ∙ get_or-set_other r i k x 0 p in
        let ey : at s (k + 8) ≡ at r (k + 8) =
        get_or-set_other (set r i x) (i + 8) (k + 8) y 0 (omega arith) ∙ get_or-set_other r i (k + 8) x 0 (omega arith) in
        (λ d. lane (ex d) (ey d)) ∙ h.done k less

pub laned-all : {f : ℕ → Lane} {r : List ℕ} {i : ℕ} → Laned f r i → 8 ≤ i → r ≡ lanes f
laned-all {f} {r} {i} h le = sym (lanes-ext f r h.len (λ k hk. sym (h.done k (omega arith))))

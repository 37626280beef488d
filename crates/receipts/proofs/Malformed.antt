-- The search for the first malformed receipt, and what the place that it finds says.
-- Assumes nothing.
use mathlib.Core.Path.{◌≡◌, refl, sym, ap, ◌∙◌}
use mathlib.Core.Bool.{Bool, true, false, cond}
use mathlib.Core.List.{List}
use Prim.Native.Nat.{ℕ, zero, suc, ◌+◌, ◌-◌, ◌*◌, ◌≤◌, ◌<◌, zero-le}
use native.Mathlib.Numerals.{add-one}
use native.Mathlib.Decide.{ℕ_discrete}
use native.Mathlib.Omega.{arith}
use lib.ListN.{drop}
use Rattle.lsh.specs.ByteString.{Bytes}
use Rattle.lsh.proofs.Bytes.{bytes_take, bytes_drop}
use Rattle.receipts.specs.Receipt.{receipt_bytes}
use Rattle.receipts.specs.WellFormed.{well_formed, IsReceipt}
use Rattle.receipts.specs.Tally.{receipt_count, receipt_at, first_malformed}
use Rattle.receipts.proofs.Places.{receipt-length}

-- the receipts before place i are well formed
pub record Searched (s : List ℕ) (i : ℕ) : Type 0 where
  pub up_to : i ≤ receipt_count s
  pub rest : first_malformed s 0 (receipt_count s) ≡ first_malformed s i (receipt_count s - i)

module _ (s : List ℕ) (i : ℕ) (h : Searched s i) where
  module _ (lt : i < receipt_count s) where
    -- by the receipt at place i
    here : first_malformed s 0 (receipt_count s)
        ≡ cond (well_formed (receipt_at s i)) (first_malformed s (i + 1) (receipt_count s - (i + 1))) i
    unfolding first_malformed
    here =
        let e : receipt_count s - i ≡ suc (receipt_count s - (i + 1)) = omega arith in
        h.rest ∙ ap (first_malformed s i) e ∙ rw add-one

    pub malformed-here : well_formed (receipt_at s i) ≡ false → i ≡ first_malformed s 0 (receipt_count s)
    malformed-here is = sym (here ∙ rw is)

    pub searched-more : well_formed (receipt_at s i) ≡ true → Searched s (i + 1)
    searched-more is = record { up_to = omega arith; rest = here ∙ rw is }

  pub searched-all : receipt_count s ≤ i → i ≡ first_malformed s 0 (receipt_count s)
  unfolding first_malformed
  searched-all all =
      let up : i ≤ receipt_count s = h.up_to in
      let e : receipt_count s - i ≡ 0 = omega arith in
      sym (h.rest ∙ ap (first_malformed s i) e)

-- the receipt at the place found is malformed
pub place-malformed : (s : List ℕ) (i k : ℕ) → first_malformed s i k < i + k → well_formed (receipt_at s (first_malformed s i k)) ≡ false
unfolding first_malformed
place-malformed s i zero lt = absurd (omega arith)
place-malformed s i (suc k) lt = go (well_formed (receipt_at s i)) refl (place-malformed s (suc i) k) lt
  where
    go : (b : Bool) → well_formed (receipt_at s i) ≡ b → (first_malformed s (suc i) k < suc i + k → well_formed (receipt_at s (first_malformed s (suc i) k)) ≡ false)
        → cond b (first_malformed s (suc i) k) i < i + suc k → well_formed (receipt_at s (cond b (first_malformed s (suc i) k) i)) ≡ false
    go true is later lt = later (omega arith)
    go false is later lt = is

-- and each one from i on before that place is well formed
pub before-well-formed : (s : List ℕ) (i k j : ℕ) → i ≤ j → j < first_malformed s i k → well_formed (receipt_at s j) ≡ true
unfolding first_malformed
before-well-formed s i zero j le lt = absurd (omega arith)
before-well-formed s i (suc k) j le lt = go (well_formed (receipt_at s i)) refl (ℕ_discrete i j) (before-well-formed s (suc i) k j) lt
  where
    go : (b : Bool) → well_formed (receipt_at s i) ≡ b → Dec (i ≡ j)
        → (suc i ≤ j → j < first_malformed s (suc i) k → well_formed (receipt_at s j) ≡ true)
        → j < cond b (first_malformed s (suc i) k) i → well_formed (receipt_at s j) ≡ true
    go true is (yes e) later lt = ap (λ (p : ℕ). well_formed (receipt_at s p)) (sym e) ∙ is
    go true is (no ne) later lt = later (omega arith) lt
    go false is d later lt = absurd (omega arith)

-- where no place is found, each is a well-formed receipt
pub all-receipts : (s : List ℕ) → Bytes s → {place : ℕ} → place ≡ first_malformed s 0 (receipt_count s) → receipt_count s ≤ place
    → (j : ℕ) → j < receipt_count s → IsReceipt (receipt_at s j)
unfolding receipt_at
all-receipts s bytes is none j lt =
    record {
      long = receipt-length s j lt;
      bytes = bytes_take receipt_bytes (drop (j * receipt_bytes) s) (bytes_drop (j * receipt_bytes) s bytes);
      form = before-well-formed s 0 (receipt_count s) j zero-le (omega arith);
    }

-- Two well-formed receipts are the same exactly if all their bytes agree, and Same says so.
-- Assumes nothing.
use mathlib.Core.Path.{◌≡◌, refl, sym, ap, ap₂, ◌∙◌}
use mathlib.Core.Bool.{Bool, true, false, not, cond, ◌&&◌, false≢true}
use mathlib.Core.List.{List, [], ◌∷◌}
use Prim.Native.Nat.{ℕ}
use borrow.Author.Tests.{eqb-true, eq-eqb}
use lib.Dec.{eqb}
use lib.ListN.{length, take}
use Rattle.answers.proofs.Tests.{Test, test, passed}
use Rattle.lsh.specs.Bits.{bits_of}
use Rattle.lsh.proofs.Tests.{and-true}
use Rattle.lsh.specs.ByteString.{Bytes}
use Rattle.lists.specs.Equal.{equal}
use Rattle.lists.proofs.Equal.{equal-self, equal-true}
use Rattle.receipts.specs.Receipt.{receipt_bytes, receipt}
use Rattle.receipts.specs.declared.Sameness.{Sameness}
use Rattle.receipts.specs.Parts.{word_size_of, digest_length_of, digest_of, bit_length_of}
use Rattle.receipts.specs.WellFormed.{well_formed, IsReceipt}
use Rattle.receipts.specs.Same.{same_receipt, is_receipt_long, same_call}
use Rattle.receipts.proofs.Formed.{receipt-of-parts}

pub same_self : (r : List ℕ) → same_receipt r r ≡ true
unfolding same_receipt
same_self r =
    rw (eq-eqb (word_size_of r) (word_size_of r) refl, eq-eqb (digest_length_of r) (digest_length_of r) refl, equal-self (digest_of r), eq-eqb (bit_length_of r) (bit_length_of r) refl)

pub same_parts : (a b : List ℕ) → same_receipt a b ≡ true
    → (word_size_of a ≡ word_size_of b) × (digest_length_of a ≡ digest_length_of b) × (digest_of a ≡ digest_of b) × (bit_length_of a ≡ bit_length_of b)
unfolding same_receipt
same_parts a b e =
    let w : Bool = eqb (word_size_of a) (word_size_of b) in
    let n : Bool = eqb (digest_length_of a) (digest_length_of b) in
    let d : Bool = equal (digest_of a) (digest_of b) in
    let l : Bool = eqb (bit_length_of a) (bit_length_of b) in
    let p3 : (w && n && d ≡ true) × (l ≡ true) = and-true (w && n && d) l e in
    let p2 : (w && n ≡ true) × (d ≡ true) = and-true (w && n) d p3.0 in
    let p1 : (w ≡ true) × (n ≡ true) = and-true w n p2.0 in (
      eqb-true (word_size_of a) (word_size_of b) p1.0,
      eqb-true (digest_length_of a) (digest_length_of b) p1.1,
      equal-true (digest_of a) (digest_of b) p2.1,
      eqb-true (bit_length_of a) (bit_length_of b) p3.1,
    )

pub same_alike : (a b c : List ℕ) → same_receipt a b ≡ true → same_receipt a c ≡ same_receipt b c
unfolding same_receipt
same_alike a b c e = rw ((same_parts a b e).0, (same_parts a b e).1, (same_parts a b e).2, (same_parts a b e).3)

module _ {a b : List ℕ} (ra : IsReceipt a) (rb : IsReceipt b) where
  same_bytes : same_receipt a b ≡ true → a ≡ b
  same_bytes e =
      let parts : ℕ → ℕ → List ℕ → ℕ → List ℕ = λ w n d bits. receipt w n (take n (bits_of d)) bits in
      receipt-of-parts ra
      ∙ ap₂ (λ (w n : ℕ). parts w n (digest_of a) (bit_length_of a)) (same_parts a b e).0 (same_parts a b e).1
      ∙ ap₂ (parts (word_size_of b) (digest_length_of b)) (same_parts a b e).2 (same_parts a b e).3
      ∙ sym (receipt-of-parts rb)

  pub same-is-equal : same_receipt a b ≡ equal a b
  same-is-equal = go (same_receipt a b) (equal a b) refl refl
    where
      go : (s t : Bool) → same_receipt a b ≡ s → equal a b ≡ t → s ≡ t
      go true true is eq = refl
      go false false is eq = refl
      go true false is eq = absurd (false≢true (sym eq ∙ ap (equal a) (sym (same_bytes is)) ∙ equal-self a))
      go false true is eq = absurd (false≢true (sym is ∙ ap (same_receipt a) (sym (equal-true a b eq)) ∙ same_self a))

-- Same, by its two tests
abbrev answer : Bool → Bool → Bool → Sameness
answer long form agree =
    cond (not long) (record { number = 13; same = false }) (cond (not form) (record { number = 14; same = false }) (record { number = 0; same = agree }))

module _ (a b : List ℕ) where
  -- it says yes only of two well-formed receipts, and then all their bytes agree
  pub yes-equal : Bytes a → Bytes b → (same_call a b).same ≡ true → a ≡ b
  unfolding same_call is_receipt_long
  yes-equal ba bb said =
      let l : Bool = is_receipt_long a && is_receipt_long b in
      let f : Bool = well_formed a && well_formed b in
      let all : (l ≡ true) × (f ≡ true) × (same_receipt a b ≡ true) = go l f said in
      let long : (is_receipt_long a ≡ true) × (is_receipt_long b ≡ true) = and-true (is_receipt_long a) (is_receipt_long b) all.0 in
      let form : (well_formed a ≡ true) × (well_formed b ≡ true) = and-true (well_formed a) (well_formed b) all.1 in
      same_bytes
      (record { long = eqb-true (length a) receipt_bytes long.0; bytes = ba; form = form.0 })
      (record { long = eqb-true (length b) receipt_bytes long.1; bytes = bb; form = form.1 })
      all.2
    where
      go : (long form : Bool) → (answer long form (same_receipt a b)).same ≡ true → (long ≡ true) × (form ≡ true) × (same_receipt a b ≡ true)
      go true true is = (refl, refl, is)
      go true false is = absurd (false≢true is)
      go false form is = absurd (false≢true is)

  pub equal-yes : (same_call a b).number ≡ 0 → a ≡ b → (same_call a b).same ≡ true
  unfolding same_call
  equal-yes accepted e =
      let long : Test Sameness = test (not (is_receipt_long a && is_receipt_long b)) (record { number = 13; same = false }) in
      let form : Test Sameness = test (not (well_formed a && well_formed b)) (record { number = 14; same = false }) in
      let all = (passed (λ (c : Sameness). c.number) (long ∷ form ∷ []) (record { number = 0; same = same_receipt a b }) refl accepted).1 in
      ap (λ (c : Sameness). c.same) all ∙ ap (same_receipt a) (sym e) ∙ same_self a

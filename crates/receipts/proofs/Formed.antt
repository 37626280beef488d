-- What the form of a receipt says, and that a well-formed receipt is the receipt of its four parts.
-- Assumes nothing.
use mathlib.Core.Path.{◌≡◌, refl, sym, ap, ap₂, ◌∙◌}
use mathlib.Core.Bool.{Bool, true, false, cond, ◌&&◌}
use mathlib.Core.List.{List, [], ◌∷◌, ◌++◌}
use Prim.Native.Nat.{ℕ, ◌+◌, ◌-◌, ◌*◌, ◌/◌, ◌%◌, ◌^◌, ◌≤◌, ◌<◌}
use native.Mathlib.Nat.{div-add-mod'}
use native.Mathlib.Omega.{arith}
use borrow.Author.Tests.{eqb-true, ne_eqb, ltb-false}
use lib.Dec.{eqb, ltb, leb}
use lib.ListN.{length, take, drop, replicate, length-drop, take-append-drop}
use lib.Seq.{length-take-le, take-take, take-add, get_or-take, get_or-drop}
use Rattle.lsh.specs.Tabulate.{at, tabulate}
use Rattle.lsh.specs.WordSize.{is_word_size}
use Rattle.lsh.specs.Bytes.{word_at, byte_at}
use Rattle.lsh.specs.Bits.{bits_of, bytes_of_bits}
use Rattle.lsh.proofs.Tests.{and-true}
use Rattle.lsh.proofs.Tabulate.{tabulate-ext}
use Rattle.lsh.specs.ByteString.{Bytes}
use Rattle.lsh.proofs.Bytes.{bytes_take, bytes_drop, byte_word}
use Rattle.message.proofs.Digest.{digest-bytes}
use Rattle.limits.specs.Limits.{longest_digest, is_digest_length}
use Rattle.lists.specs.ZeroFilled.{zero_filled}
use Rattle.limits.proofs.Limits.{digest-longest}
use Rattle.receipts.specs.Receipt.{receipt_bytes, digest_place, length_place, receipt}
use Rattle.receipts.specs.Ending.{most_bits}
use Rattle.lists.proofs.Lists.{zero-all}
use Rattle.receipts.specs.Parts.{word_size_of, digest_length_of, digest_of, bit_length_of}
use Rattle.receipts.specs.WellFormed.{unused_zero, zero_after, well_formed, IsReceipt}

record Formed (r : List ℕ) : Type 0 where
  word : is_word_size (word_size_of r) ≡ true
  gap : at r 1 ≡ 0
  digest_length : is_digest_length (word_size_of r) (digest_length_of r) ≡ true
  unused : unused_zero r (digest_length_of r) ≡ true
  after : zero_after r (digest_length_of r) ≡ true

formed : (r : List ℕ) → well_formed r ≡ true → Formed r
unfolding well_formed
formed r e =
    let a : Bool = is_word_size (word_size_of r) in
    let b : Bool = eqb (at r 1) 0 in
    let c : Bool = is_digest_length (word_size_of r) (digest_length_of r) in
    let d : Bool = unused_zero r (digest_length_of r) in
    let z : Bool = zero_after r (digest_length_of r) in
    let l : Bool = leb (bit_length_of r) most_bits in
    let p4 : (a && b && c && d ≡ true) × (z ≡ true) = and-true (a && b && c && d) z (and-true (a && b && c && d && z) l e).0 in
    let p3 : (a && b && c ≡ true) × (d ≡ true) = and-true (a && b && c) d p4.0 in
    let p2 : (a && b ≡ true) × (c ≡ true) = and-true (a && b) c p3.0 in
    record {
      word = (and-true a b p2.0).0;
      gap = eqb-true (at r 1) 0 (and-true a b p2.0).1;
      digest_length = p2.1;
      unused = p3.1;
      after = p4.1;
    }

first-four : (r : List ℕ) → 4 ≤ length r → take 4 r ≡ at r 0 ∷ at r 1 ∷ at r 2 ∷ at r 3 ∷ []
first-four [] h = absurd (omega arith)
first-four (a ∷ []) h = absurd (omega arith)
first-four (a ∷ b ∷ []) h = absurd (omega arith)
first-four (a ∷ b ∷ c ∷ []) h = absurd (omega arith)
first-four (a ∷ b ∷ c ∷ d ∷ r) h = refl

cut-whole : (x k : ℕ) → x % 2 ^ k ≡ 0 → x / 2 ^ k * 2 ^ k ≡ x
cut-whole x k e = omega (arith, div-add-mod' x (2 ^ k))

module _ {r : List ℕ} (is : IsReceipt r) where
  ok : Formed r
  ok = formed r is.form

  long : length r ≡ receipt_bytes
  long = is.long

  abbrev size : ℕ
  size = (digest_length_of r + 7) / 8

  few : digest_length_of r ≤ longest_digest 64
  few = digest-longest (word_size_of r) (digest_length_of r) ok.word ok.digest_length

  digest-size : length (digest_of r) ≡ size
  unfolding digest_of receipt_bytes
  digest-size = length-take-le size (drop digest_place r) (omega (arith, length-drop digest_place r, few))

  -- w, zero and n
  front : take digest_place r ≡ word_size_of r ∷ 0 ∷ digest_length_of r % 256 ∷ digest_length_of r / 256 ∷ []
  unfolding word_size_of digest_length_of word_at receipt_bytes
  front =
      let low : at r 2 ≡ (at r 2 + 256 * (at r 3 + 256 * 0)) % 256 = omega (arith, is.bytes 2) in
      let high : at r 3 ≡ (at r 2 + 256 * (at r 3 + 256 * 0)) / 256 = omega (arith, is.bytes 2) in
      first-four r (omega arith)
      ∙ ap (λ (x : ℕ). at r 0 ∷ x ∷ at r 2 ∷ at r 3 ∷ []) ok.gap
      ∙ ap₂ (λ (x y : ℕ). at r 0 ∷ 0 ∷ x ∷ y ∷ []) low high

  zeros : drop (digest_place + size) (take length_place r) ≡ replicate (length_place - (digest_place + size)) 0
  unfolding zero_after receipt_bytes
  zeros =
      zero-all (drop (digest_place + size) (take length_place r)) ok.after
      ∙ ap (λ (k : ℕ). replicate k 0)
      (length-drop (digest_place + size) (take length_place r) ∙ ap (λ (k : ℕ). k - (digest_place + size)) (length-take-le length_place r (omega arith)))

  last : drop length_place r ≡ tabulate 8 (byte_at (bit_length_of r))
  unfolding bit_length_of receipt_bytes
  last =
      sym (tabulate-ext 8 (byte_at (bit_length_of r)) (drop length_place r) (length-drop length_place r ∙ omega arith)
      (λ i lt. byte_word 8 r length_place i is.bytes lt ∙ sym (get_or-drop length_place r i 0)))

  -- the bytes of the digest are those of its bits, since what the last one does not use is 0

  last_byte : (i : ℕ) → digest_length_of r / 8 ≤ i → i < size → at (digest_of r) i % 2 ^ (8 - digest_length_of r % 8) ≡ 0
  unfolding unused_zero digest_of
  last_byte i ge lt =
      let n : ℕ = digest_length_of r in
      let some : n % 8 ≡ 0 → ⊥ = λ e. omega arith in
      let place : digest_place + i ≡ digest_place + n / 8 = omega arith in
      let zero : eqb (at r (digest_place + n / 8) % 2 ^ (8 - n % 8)) 0 ≡ true = rw (ne_eqb (n % 8) 0 some) at ok.unused in
      ap (λ (x : ℕ). x % 2 ^ (8 - n % 8)) (get_or-take size (drop digest_place r) i 0 lt ∙ get_or-drop digest_place r i 0 ∙ ap (at r) place)
      ∙ eqb-true (at r (digest_place + n / 8) % 2 ^ (8 - n % 8)) 0 zero

  are-bytes : Bytes (digest_of r)
  unfolding digest_of
  are-bytes = bytes_take size (drop digest_place r) (bytes_drop digest_place r is.bytes)

  digest-is : bytes_of_bits (take (digest_length_of r) (bits_of (digest_of r))) ≡ digest_of r
  digest-is =
      digest-bytes (digest_of r) (digest_length_of r) are-bytes (omega (arith, digest-size))
      ∙ tabulate-ext size _ (digest_of r) digest-size (λ i lt. go i lt (ltb i (digest_length_of r / 8)) refl)
    where
      go : (i : ℕ) → i < size → (b : Bool) → ltb i (digest_length_of r / 8) ≡ b
          → cond b (at (digest_of r) i) (at (digest_of r) i / 2 ^ (8 - digest_length_of r % 8) * 2 ^ (8 - digest_length_of r % 8)) ≡ at (digest_of r) i
      go i lt true is = refl
      go i lt false is = cut-whole (at (digest_of r) i) (8 - digest_length_of r % 8) (last_byte i (ltb-false i (digest_length_of r / 8) is) lt)

  pub receipt-of-parts : r ≡ receipt (word_size_of r) (digest_length_of r) (take (digest_length_of r) (bits_of (digest_of r))) (bit_length_of r)
  unfolding digest_of receipt_bytes receipt
  receipt-of-parts =
      let part : List ℕ = take length_place r in
      let head : List ℕ = word_size_of r ∷ 0 ∷ digest_length_of r % 256 ∷ digest_length_of r / 256 ∷ digest_of r in
      let most : digest_place + size ≤ length_place = omega (arith, few) in
      let ends : digest_place + size ≡ length head = omega (arith, digest-size) in
      let begins : take (digest_place + size) part ≡ head =
      take-take (digest_place + size) length_place r most ∙ take-add digest_place size r ∙ ap (λ (s : List ℕ). s ++ digest_of r) front in
      let rest : drop (digest_place + size) part ≡ replicate (length_place - length head) 0 =
      zeros ∙ ap (λ (k : ℕ). replicate (length_place - k) 0) ends in
      sym (take-append-drop length_place r)
      ∙ ap₂ ◌++◌ (sym (take-append-drop (digest_place + size) part) ∙ ap₂ ◌++◌ begins rest) last
      ∙ ap (λ (s : List ℕ). zero_filled length_place (word_size_of r ∷ 0 ∷ digest_length_of r % 256 ∷ digest_length_of r / 256 ∷ s) ++ tabulate 8 (byte_at (bit_length_of r)))
      (sym digest-is)

-- A receipt that stands at the front of an output is well formed, and its four parts are read back from it.
-- Assumes nothing.
use mathlib.Core.Path.{◌≡◌, refl, sym, ap, ◌∙◌, subst}
use mathlib.Core.Bool.{Bool, true, false}
use mathlib.Core.List.{List, ◌∷◌, ◌++◌}
use Prim.Native.Nat.{ℕ, suc, ◌+◌, ◌-◌, ◌*◌, ◌/◌, ◌%◌, ◌^◌, ◌≤◌, ◌<◌}
use native.Mathlib.Omega.{arith}
use borrow.Author.Tests.{eq-eqb, eqb-false, le-leb}
use lib.Dec.{eqb}
use lib.ListN.{length, take, drop, replicate, length-append, length-drop, get_or-append}
use lib.Seq.{length-take-le, take_at, take-append-le, get_or-append-add}
use Rattle.lists.proofs.Lists.{filled_zero}
use Rattle.lsh.specs.Tabulate.{at, tabulate}
use Rattle.lsh.specs.WordSize.{is_word_size, size_of}
use Rattle.lsh.specs.Bytes.{word_at, byte_at}
use Rattle.lsh.specs.Bits.{bits_of, number_of, bytes_of_bits}
use Rattle.lsh.specs.Hash.{final_bytes, digest}
use Rattle.lsh.proofs.Tabulate.{length-tabulate, at-tabulate}
use Rattle.lsh.proofs.Figures.{bits_are}
use Rattle.lsh.proofs.Bytes.{octets, word-bytes}
use Rattle.message.proofs.Bits.{length-bits, low-zero}
use Rattle.message.proofs.Back.{length-bytes}
use Rattle.limits.specs.Limits.{longest_digest, is_digest_length, limit}
use Rattle.limits.proofs.Limits.{digest-most, digest-longest}
use Rattle.lists.proofs.Zeros.{filled-length}
use Rattle.receipts.specs.Receipt.{receipt_bytes, digest_place, length_place, receipt}
use Rattle.receipts.specs.Ending.{most_bits}
use Rattle.receipts.proofs.FinalBytes.{length-final, at-append-zeros}
use Rattle.lists.specs.Lists.{all_zero}
use Rattle.receipts.specs.Parts.{word_size_of, digest_length_of, digest_of, bit_length_of}
use Rattle.receipts.specs.WellFormed.{unused_zero, zero_after, well_formed}
use Rattle.receipts.specs.Same.{is_receipt_long}
use Rattle.receipts.specs.Written.{Written}

module _ (w n : ℕ) (d : List Bool) (bits : ℕ) (word : is_word_size w ≡ true) (digest_length : is_digest_length w n ≡ true) (size : length d ≡ n) (few : bits ≤ most_bits) where
  abbrev bytes : List ℕ
  bytes = bytes_of_bits d

  abbrev front : List ℕ
  front = w ∷ 0 ∷ n % 256 ∷ n / 256 ∷ bytes

  abbrev zeros : List ℕ
  zeros = replicate (length_place - length front) 0

  abbrev tail : List ℕ
  tail = tabulate 8 (byte_at bits)

  abbrev r : List ℕ
  r = receipt w n d bits

  bytes-length : length bytes ≡ (n + 7) / 8
  bytes-length = length-bytes d ∙ ap (λ (k : ℕ). (k + 7) / 8) size

  short : n ≤ longest_digest 64
  short = digest-longest w n word digest_length

  front_long : length (front ++ zeros) ≡ length_place
  front_long = filled-length length_place front (omega (arith, bytes-length, short))

  receipt-long : length r ≡ receipt_bytes
  unfolding receipt receipt_bytes
  receipt-long = length-append (front ++ zeros) tail ∙ omega (arith, front_long, length-tabulate 8 (byte_at bits))

  -- the parts

  word-is : word_size_of r ≡ w
  unfolding word_size_of receipt
  word-is = refl

  length-is : digest_length_of r ≡ n
  unfolding digest_length_of word_at receipt
  length-is = omega arith

  digest-is : digest_of r ≡ bytes
  unfolding digest_of receipt
  digest-is =
      ap (λ (k : ℕ). take ((k + 7) / 8) (bytes ++ zeros ++ tail)) length-is
      ∙ take-append-le ((n + 7) / 8) (bytes ++ zeros) tail (omega (arith, bytes-length, length-append bytes zeros))
      ∙ take_at bytes zeros ((n + 7) / 8) bytes-length

  bits-are-read : bit_length_of r ≡ bits
  unfolding bit_length_of receipt most_bits limit
  bits-are-read =
      word-bytes 8 r length_place bits (omega arith)
      (λ i lt.
      ap (λ (k : ℕ). at (front ++ zeros ++ tail) (k + i)) (sym front_long)
      ∙ get_or-append-add (front ++ zeros) tail i 0
      ∙ at-tabulate 8 (byte_at bits) i lt)

  -- the form

  at_front : (j : ℕ) → j < length_place → at r j ≡ at front j
  unfolding receipt
  at_front j lt = get_or-append (front ++ zeros) tail 0 j (rw front_long lt) ∙ at-append-zeros front (length_place - length front) j

  last_byte : (n % 8 ≡ 0 → ⊥) → at r (digest_place + n / 8) % 2 ^ (8 - n % 8) ≡ 0
  unfolding bytes_of_bits
  last_byte some =
      let m : List Bool = drop (8 * (n / 8)) d in
      let left : length m ≡ n % 8 = omega (arith, length-drop (8 * (n / 8)) d) in
      let eight : 8 ≡ length m + (8 - n % 8) = omega arith in
      let place : digest_place + n / 8 ≡ suc (suc (suc (suc (n / 8)))) = omega arith in
      ap (λ (x : ℕ). x % 2 ^ (8 - n % 8))
      (at_front (digest_place + n / 8) (omega (arith, short)) ∙ ap (at front) place
      ∙ at-tabulate ((length d + 7) / 8) (λ l. number_of 8 (drop (8 * l) d)) (n / 8) (omega arith)
      ∙ ap (λ (j : ℕ). number_of j m) eight)
      ∙ low-zero m (8 - n % 8)

  unused-zero : unused_zero r n ≡ true
  unfolding unused_zero
  unused-zero = go (eqb (n % 8) 0) refl
    where
      go : (b : Bool) → eqb (n % 8) 0 ≡ b → unused_zero r n ≡ true
      go true is = rw is
      go false is = rw (is, eq-eqb (at r (digest_place + n / 8) % 2 ^ (8 - n % 8)) 0 (last_byte (eqb-false (n % 8) 0 is)))

  zero-after : zero_after r n ≡ true
  unfolding zero_after receipt
  zero-after =
      ap (λ (s : List ℕ). all_zero (drop (digest_place + (n + 7) / 8) s)) (take_at (front ++ zeros) tail length_place front_long)
      ∙ filled_zero length_place front (digest_place + (n + 7) / 8) (omega (arith, bytes-length))

  byte-1 : at r 1 ≡ 0
  unfolding receipt
  byte-1 = refl

  well-formed : well_formed r ≡ true
  unfolding well_formed
  well-formed = rw (word-is, byte-1, length-is, bits-are-read, word, digest_length, unused-zero, zero-after) (le-leb bits most_bits few)

  -- at the front of an output
  pub at-front-of : (rest : List ℕ) {output : List ℕ} → output ≡ receipt w n d bits ++ rest → Written w n d bits (take receipt_bytes output)
  unfolding is_receipt_long
  at-front-of rest is =
      subst (Written w n d bits) (sym (ap (take receipt_bytes) is ∙ take_at r rest receipt_bytes receipt-long))
      record {
        long = eq-eqb (length r) receipt_bytes receipt-long;
        form = well-formed;
        word_size = word-is;
        digest_length = length-is;
        digest = digest-is;
        bit_length = bits-are-read;
      }

pub digest-long : (w n : ℕ) (t : List ℕ) → is_word_size w ≡ true → is_digest_length w n ≡ true → length (digest (size_of w) n t) ≡ n
unfolding digest
digest-long w n t word digest_length =
    let h : List ℕ = final_bytes (size_of w) t in
    length-take-le n (bits_of h)
    (omega (arith, digest-most w n digest_length, length-bits h, length-final (size_of w) (octets w) t, bits_are w word))

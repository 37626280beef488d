-- Whole can be asked for every message of at most as many bits as the most bytes have, and 7 more: its whole bytes, and its last bits at the front of a
-- last byte.
-- Assumes nothing.
use mathlib.Core.Path.{◌≡◌, sym, ap, ap₂, ◌∙◌}
use mathlib.Core.Bool.{Bool, true}
use mathlib.Core.List.{List, ◌++◌}
use Prim.Native.Nat.{ℕ, ◌+◌, ◌-◌, ◌*◌, ◌/◌, ◌%◌, ◌^◌, ◌≤◌}
use native.Mathlib.Omega.{arith}
use borrow.Author.Tests.{eq-eqb, le-ltb}
use lib.ListN.{length, take, drop, length-drop, take-append-drop}
use lib.Seq.{length-take-le, take_all}
use Rattle.lsh.specs.WordSize.{is_word_size}
use Rattle.lsh.specs.Bits.{bits_of_byte, number_of, bytes_of_bits}
use Rattle.lsh.specs.Hash.{lsh}
use Rattle.message.proofs.Bits.{low-zero}
use Rattle.message.proofs.Back.{number_lt, bits-of-byte, length-bytes, whole_back, bits-bytes}
use Rattle.answers.proofs.Output.{written_is}
use Rattle.limits.specs.Limits.{is_digest_length, limit}
use Rattle.receipts.specs.Receipt.{receipt_bytes, receipt}
use Rattle.receipts.specs.Ending.{message_bits, most_bits, end_answer}
use Rattle.receipts.specs.Whole.{whole_answer, whole_output}
use Rattle.receipts.specs.Asked.{Asked}

module _ (m : List Bool) where
  abbrev e : ℕ
  e = length m % 8

  -- the bits of the whole bytes, and those after them
  abbrev front : List Bool
  front = take (8 * (length m / 8)) m

  abbrev rest : List Bool
  rest = drop (8 * (length m / 8)) m

  abbrev bytes : List ℕ
  bytes = bytes_of_bits front

  abbrev last : ℕ
  last = number_of 8 rest

  front-size : length front ≡ 8 * (length m / 8)
  front-size = length-take-le (8 * (length m / 8)) m (omega arith)

  rest-size : length rest ≡ e
  rest-size = length-drop (8 * (length m / 8)) m ∙ omega arith

  size : length bytes ≡ length m / 8
  size = length-bytes front ∙ omega (arith, front-size)

  message : message_bits bytes last e ≡ m
  unfolding message_bits
  message =
      ap₂ (λ (p q : List Bool). p ++ q) (whole_back front (omega (arith, front-size)))
      (ap (λ (k : ℕ). take k (bits_of_byte last)) (sym rest-size) ∙ bits-of-byte rest ∙ take_all 8 rest (omega (arith, rest-size)))
      ∙ take-append-drop (8 * (length m / 8)) m

  -- the bits of the last byte after those that count are 0
  low : last % 2 ^ (8 - e) ≡ 0
  low =
      let eight : 8 ≡ length rest + (8 - e) = omega (arith, rest-size) in
      ap (λ (k : ℕ). number_of k rest % 2 ^ (8 - e)) eight ∙ low-zero rest (8 - e)

  module _ (few : length m ≤ most_bits) where
    accepted : (w n size : ℕ) → is_word_size w ≡ true → is_digest_length w n ≡ true → receipt_bytes ≤ size → whole_answer w n (length bytes) last e size ≡ 0
    unfolding whole_answer end_answer most_bits
    accepted w n room word digest fits =
        rw (
          word,
          digest,
          le-ltb limit (length bytes) (omega (arith, size, few)),
          le-ltb 7 e (omega arith),
          eq-eqb (last % 2 ^ (8 - e)) 0 low,
          le-ltb room receipt_bytes fits,
        )

    written : (w n : ℕ) (output : List ℕ) → is_word_size w ≡ true → is_digest_length w n ≡ true → receipt_bytes ≤ length output
        → whole_output w n bytes last e output ≡ receipt w n (lsh w n m) (length m) ++ drop receipt_bytes output
    unfolding whole_output
    written w n output word digest fits =
        written_is _ receipt_bytes _ output (accepted w n (length output) word digest fits)
        ∙ ap (λ (b : List Bool). receipt w n (lsh w n b) (length b) ++ drop receipt_bytes output) message

pub every-message : (m : List Bool) → length m ≤ most_bits → Asked m
every-message m few =
    record {
      bytes = record { list = bytes m; bytes = bits-bytes (front m) };
      last = last m;
      last_byte = number_lt 8 (rest m);
      e = e m;
      message = message m;
      accepted = accepted m few;
      written = written m few;
    }

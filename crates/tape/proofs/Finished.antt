-- The finish on the record of a key's inner block and a message is the tag of the message.
-- Assumes nothing.
use mathlib.Core.Path.{◌≡◌, ap, ap₂, ◌∙◌}
use mathlib.Core.Bool.{true}
use mathlib.Core.List.{List, ◌++◌, append-nil}
use Prim.Native.Nat.{ℕ, ◌%◌}
use native.Mathlib.Omega.{arith}
use borrow.Author.Tests.{eq-eqb, le-ltb}
use lib.ListN.{length, length-append}
use Rattle.lsh.specs.WordSize.{is_word_size}
use Rattle.lsh.specs.Bits.{bits_of, bytes_of_bits}
use Rattle.lsh.specs.Hash.{lsh}
use Rattle.lsh.specs.ByteString.{Bytes}
use Rattle.lsh.proofs.Bytes.{bytes-append}
use Rattle.answers.specs.First.{first}
use Rattle.answers.specs.Output.{written}
use Rattle.limits.specs.Limits.{limit}
use Rattle.orders.specs.declared.Record.{Record}
use Rattle.orders.specs.Record.{sound, record_of}
use Rattle.orders.proofs.Strings.{record-sound}
use Rattle.receipts.specs.Ending.{message_bits}
use Rattle.receipts.specs.Close.{closed_digest}
use Rattle.tape.proofs.Messages.{closed-digest}
use Rattle.tags.specs.Hmac.{hash_bytes, inner_key, tag_of, hmac}
use Rattle.tags.proofs.Keys.{inner-length, inner-bytes}
use Rattle.tags.specs.KeyAnswer.{is_whole_bytes, tag_bytes, key_answer}
use Rattle.tags.specs.KeyAnswer.{tag_answer}
use Rattle.tags.specs.Tag.{tag_output}
use Rattle.tags.specs.KeyAnswer.{finish_answer}
use Rattle.tags.specs.Finish.{finish_output}
use Rattle.tags.proofs.Accepted.{Keyed}

-- the digest that a record of bytes gives without extra bits
inner-digest : (w n : ℕ) (m : List ℕ) → is_word_size w ≡ true → Bytes m → bytes_of_bits (closed_digest (record_of w n m) 0 0) ≡ hash_bytes w n m
unfolding hash_bytes message_bits
inner-digest w n m word bytes =
    ap bytes_of_bits (closed-digest w n m word 0 0 bytes (omega arith) ∙ ap (lsh w n) (append-nil (bits_of m)))

module _ (w n : ℕ) (key m : List ℕ) (ok : Keyed w n (length key) (length m)) where
  abbrev R : Record
  R = record_of w n (inner_key w n key ++ m)

  no-refusal : key_answer w n (length key) (length m) ≡ 0
  unfolding key_answer is_whole_bytes
  no-refusal = rw (ok.word_size, ok.digest_length, eq-eqb (n % 8) 0 ok.bytewise, le-ltb limit _ ok.short, le-ltb limit _ ok.within)

  record-taken : sound R ≡ true
  record-taken =
      record-sound w n (inner_key w n key ++ m) ok.word_size ok.digest_length
      (omega (arith, length-append (inner_key w n key) m, inner-length w n ok.word_size ok.digest_length ok.bytewise key, ok.within))

  pub finish-answer : (size : ℕ) → finish_answer R (length key) size ≡ tag_answer w n (length key) (length m) size
  unfolding finish_answer tag_answer is_whole_bytes record_of first
  finish-answer size = rw (record-taken, eq-eqb (n % 8) 0 ok.bytewise, le-ltb limit _ ok.short, no-refusal)

  pub finish-output : Bytes m → (output : List ℕ) → finish_output R key output ≡ tag_output w n key m output
  unfolding finish_output tag_output hmac record_of
  finish-output bytes output =
      ap₂ (λ (a : ℕ) (d : List ℕ). written a (tag_bytes n) (tag_of w n key d) output) (finish-answer (length output))
      (inner-digest w n (inner_key w n key ++ m) ok.word_size (bytes-append (inner_key w n key) m (inner-bytes w n key) bytes))

-- Close on the record of a message is Whole on the message: the answers, the digests and the outputs are the same.
-- Assumes nothing.
use mathlib.Core.Path.{◌≡◌, sym, ap, ap₂, ◌∙◌}
use mathlib.Core.Bool.{true, false}
use mathlib.Core.List.{List, ◌∷◌, ◌++◌}
use Prim.Native.Nat.{ℕ, ◌+◌, ◌-◌, ◌*◌, ◌%◌, ◌≤◌, ◌<◌}
use native.Mathlib.Nat.{mod-mod}
use native.Mathlib.Omega.{arith}
use borrow.Author.Tests.{le-ltb}
use lib.ListN.{length, take, replicate}
use lib.Seq.{length-take-le}
use Rattle.lsh.specs.WordSize.{WordSize, is_word_size, size_of, block_bytes}
use Rattle.lsh.specs.Block.{forwards}
use Rattle.lsh.specs.Opening.{opening}
use Rattle.lsh.specs.Bits.{bits_of_byte, bytes_of_bits}
use Rattle.lsh.specs.Padding.{padded, blocks_of, rest_of}
use Rattle.lsh.specs.Hash.{digest, hash, lsh}
use Rattle.lsh.proofs.Figures.{block-some}
use Rattle.lsh.specs.ByteString.{Bytes}
use Rattle.lsh.proofs.Blocks.{forwards-append}
use Rattle.lsh.proofs.Padding.{length_rest, rest-bytes, blocks-append}
use Rattle.message.proofs.Padded.{padded-rest}
use Rattle.answers.specs.Output.{written}
use Rattle.answers.proofs.Output.{same-written}
use Rattle.limits.specs.Limits.{is_digest_length, limit}
use Rattle.orders.specs.declared.Record.{Record}
use Rattle.orders.specs.Record.{held_bytes, record_of}
use Rattle.orders.proofs.Strings.{held-record, record-sound}
use Rattle.receipts.specs.Receipt.{receipt_bytes, receipt}
use Rattle.receipts.specs.Ending.{message_bits}
use Rattle.receipts.proofs.Ending.{message-length}
use Rattle.receipts.specs.Whole.{whole_answer, whole_output}
use Rattle.receipts.proofs.WholeAnswers.{accepted}
use Rattle.receipts.specs.Close.{close_answer, closed_digest, close_output}

extra-few : (last e : ℕ) → e ≤ 7 → length (take e (bits_of_byte last)) ≤ 7
unfolding bits_of_byte
extra-few last e h = omega (arith, length-take-le e (bits_of_byte last) (omega arith))

module _ (w n : ℕ) (m : List ℕ) (word : is_word_size w ≡ true) (last e : ℕ) where
  abbrev Z : WordSize
  Z = size_of w

  abbrev B : ℕ
  B = block_bytes Z

  abbrev R : Record
  R = record_of w n m

  some : 0 < B
  some = block-some w

  -- the extra bits, padded to the end of the block
  abbrev end : ℕ → List ℕ
  end used = bytes_of_bits (take e (bits_of_byte last) ++ true ∷ replicate (7 - length (take e (bits_of_byte last)) + 8 * (B - 1 - used)) false)

  -- the last block of the record, and the whole padded message, end in the same bytes
  module _ (bytes : Bytes m) (few : e ≤ 7) where
    last_block : bytes_of_bits (padded Z (message_bits (held_bytes R) last e)) ≡ rest_of Z m ++ end (length m % B)
    unfolding message_bits
    last_block =
        ap (λ (s : List ℕ). bytes_of_bits (padded Z (message_bits s last e))) (held-record w n m word)
        ∙ padded-rest Z (rest_of Z m) (take e (bits_of_byte last)) some (rest-bytes Z m bytes) (extra-few last e few)
        ∙ ap (λ (l : ℕ). rest_of Z m ++ end l) (ap (λ (l : ℕ). l % B) (length_rest Z some m) ∙ mod-mod (length m) B)

    whole-message : bytes_of_bits (padded Z (message_bits m last e)) ≡ m ++ end (length m % B)
    unfolding message_bits
    whole-message = padded-rest Z m (take e (bits_of_byte last)) some bytes (extra-few last e few)

    pub closed-digest : closed_digest R last e ≡ lsh w n (message_bits m last e)
    unfolding closed_digest lsh hash record_of
    closed-digest =
        let tail : List ℕ = end (length m % B) in
        let first : List ℕ = forwards Z (blocks_of Z m) (opening Z n) in
        ap (digest Z n)
        (ap (λ (s : List ℕ). forwards Z (blocks_of Z s) first) last_block
        ∙ sym (forwards-append Z (blocks_of Z m) (blocks_of Z (rest_of Z m ++ tail)) (opening Z n))
        ∙ ap (λ (bs : List (List ℕ)). forwards Z bs (opening Z n)) (sym (blocks-append Z some m tail))
        ∙ ap (λ (s : List ℕ). forwards Z (blocks_of Z s) (opening Z n)) (sym whole-message))

  module _ (digest_length : is_digest_length w n ≡ true) (within : length m ≤ limit) where
    pub close-answer : (size : ℕ) → close_answer R last e size ≡ whole_answer w n (length m) last e size
    unfolding close_answer whole_answer
    close-answer size = rw (record-sound w n m word digest_length within, word, digest_length, le-ltb limit (length m) within)

    pub close-output : Bytes m → (output : List ℕ) → close_output R last e output ≡ whole_output w n m last e output
    unfolding close_output whole_output record_of
    close-output bytes output =
        ap (λ (a : ℕ). written a receipt_bytes (receipt w n (closed_digest R last e) (8 * length m + e)) output) (close-answer (length output))
        ∙ same-written (whole_answer w n (length m) last e (length output)) receipt_bytes (receipt w n (closed_digest R last e) (8 * length m + e)) output
        (λ is.
        let few : e ≤ 7 = (accepted w n (length m) last e (length output) is).end.extra in
        ap₂ (receipt w n) (closed-digest bytes few) (sym (message-length m last e few)))

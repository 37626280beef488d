-- What an answer says of a call of Whole, and the receipt that is written.
-- Assumes nothing.
use mathlib.Core.Path.{◌≡◌, refl, sym, ap, ap₂, ◌∙◌}
use mathlib.Core.Bool.{true, not}
use mathlib.Core.List.{List, [], ◌∷◌, ◌++◌}
use Prim.Native.Nat.{ℕ, ◌+◌, ◌-◌, ◌*◌, ◌%◌, ◌^◌, ◌≤◌, ◌<◌}
use borrow.Author.Tests.{ltb-false, not-false}
use lib.Dec.{ltb}
use lib.ListN.{length, replicate}
use Rattle.lsh.specs.WordSize.{is_word_size, size_of, block_bytes}
use Rattle.lsh.specs.Block.{forwards}
use Rattle.lsh.specs.Opening.{opening}
use Rattle.lsh.specs.Bits.{bytes_of_bits}
use Rattle.lsh.specs.Padding.{padded, blocks_of}
use Rattle.lsh.specs.Hash.{digest, hash, lsh}
use Rattle.lsh.specs.ByteString.{Bytes}
use Rattle.lsh.proofs.Figures.{block-some}
use Rattle.message.proofs.Padded.{padded-bytes}
use Rattle.answers.proofs.Tests.{test, passed}
use Rattle.limits.specs.Limits.{is_digest_length, limit}
use Rattle.receipts.specs.Receipt.{receipt}
use Rattle.receipts.specs.Ending.{message_bits, end_answer}
use Rattle.receipts.proofs.Ending.{Ended, ended, message-length}
use Rattle.receipts.specs.Whole.{whole_answer}

-- an accepted call
pub record Accepted (w n len last e size : ℕ) : Type 0 where
  pub word_size : is_word_size w ≡ true
  pub digest_length : is_digest_length w n ≡ true
  pub within : len ≤ limit
  pub end : Ended last e size

pub accepted : (w n len last e size : ℕ) → whole_answer w n len last e size ≡ 0 → Accepted w n len last e size
unfolding whole_answer
accepted w n len last e size is =
    let p =
    passed (λ (k : ℕ). k) (test (not (is_word_size w)) 1 ∷ test (not (is_digest_length w n)) 2 ∷ test (ltb limit len) 5 ∷ []) (end_answer last e size) refl is in
    record {
      word_size = not-false (is_word_size w) (p.0 0);
      digest_length = not-false (is_digest_length w n) (p.0 1);
      within = ltb-false limit len (p.0 2);
      end = ended last e size (sym p.1 ∙ is);
    }

-- the receipt of the chain that the code reaches is that of the message
pub receipt-is : (w n : ℕ) (m : List ℕ) (last e : ℕ) {p : ℕ} {t : List ℕ} → Bytes m → last < 256 → e ≤ 7 → last % 2 ^ (8 - e) ≡ 0 → p ≡ last + 2 ^ (7 - e)
    → t ≡ forwards (size_of w) (blocks_of (size_of w) (m ++ p ∷ replicate (block_bytes (size_of w) - 1 - length m % block_bytes (size_of w)) 0)) (opening (size_of w) n)
    → receipt w n (digest (size_of w) n t) (8 * length m + e) ≡ receipt w n (lsh w n (message_bits m last e)) (length (message_bits m last e))
unfolding lsh hash message_bits
receipt-is w n m last e bytes byte extra low pad run =
    let tail : List ℕ = replicate (block_bytes (size_of w) - 1 - length m % block_bytes (size_of w)) 0 in
    let whole : m ++ (last + 2 ^ (7 - e)) ∷ tail ≡ bytes_of_bits (padded (size_of w) (message_bits m last e)) =
    sym (padded-bytes (size_of w) m last e (block-some w) bytes byte extra low) in
    ap₂ (λ (c : List ℕ) (bits : ℕ). receipt w n (digest (size_of w) n c) bits)
    (run
    ∙ ap (λ (b : ℕ). forwards (size_of w) (blocks_of (size_of w) (m ++ b ∷ tail)) (opening (size_of w) n)) pad
    ∙ ap (λ (s : List ℕ). forwards (size_of w) (blocks_of (size_of w) s) (opening (size_of w) n)) whole)
    (sym (message-length m last e extra))

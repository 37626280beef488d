-- Whole of document 01 ("Receipts and the tally"): the answer, and the output after the call.
-- Assumes nothing.
use Rattle.std.specs.Prelude.{not, cond, List, ℕ, ltb, length}
use Rattle.lsh.specs.WordSize.{is_word_size}
use Rattle.lsh.specs.Hash.{lsh}
use Rattle.answers.specs.Output.{written}
use Rattle.limits.specs.Limits.{is_digest_length, limit}
use Rattle.receipts.specs.Receipt.{receipt_bytes, receipt}
use Rattle.receipts.specs.Ending.{message_bits, end_answer}

-- by w, n, the length of the message, its last byte with e bits, and the size of the output: 1 if w is neither 32 nor 64, then 2 if n is no
-- digest length, then 5 if the message is above the limit, and then the answer of its end
unfoldable pub whole_answer : ℕ → ℕ → ℕ → ℕ → ℕ → ℕ → ℕ
whole_answer w n len last e size =
    cond (not (is_word_size w)) 1
    (cond (not (is_digest_length w n)) 2
    (cond (ltb limit len) 5
    (end_answer last e size)))

-- the receipt of the message's digest and length is written
unfoldable pub whole_output : ℕ → ℕ → List ℕ → ℕ → ℕ → List ℕ → List ℕ
whole_output w n s last e output =
    written (whole_answer w n (length s) last e (length output)) receipt_bytes
    (receipt w n (lsh w n (message_bits s last e)) (length (message_bits s last e)))
    output

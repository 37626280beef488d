-- A message counted in bits, and how Whole is asked for its receipt.
-- Assumes nothing.
use Rattle.std.specs.Prelude.{◌≡◌, Bool, true, List, ◌++◌, ℕ, ◌≤◌, ◌<◌, length, drop}
use Rattle.lsh.specs.WordSize.{is_word_size}
use Rattle.lsh.specs.ByteString.{ByteString}
use Rattle.lsh.specs.Hash.{lsh}
use Rattle.limits.specs.Limits.{is_digest_length}
use Rattle.receipts.specs.Receipt.{receipt_bytes, receipt}
use Rattle.receipts.specs.Ending.{message_bits}
use Rattle.receipts.specs.Whole.{whole_answer, whole_output}

-- bytes, a last byte and e, whose message is m. For each word size, each digest length of it and every output with room for a receipt, Whole accepts
-- them, and writes the receipt of the digest of m and of its length
pub record Asked (m : List Bool) : Type 0 where
  pub bytes : ByteString
  pub last : ℕ
  pub last_byte : last < 256
  pub e : ℕ
  pub message : message_bits bytes.list last e ≡ m
  pub accepted : (w n size : ℕ) → is_word_size w ≡ true → is_digest_length w n ≡ true → receipt_bytes ≤ size
      → whole_answer w n (length bytes.list) last e size ≡ 0
  pub written : (w n : ℕ) (output : List ℕ) → is_word_size w ≡ true → is_digest_length w n ≡ true → receipt_bytes ≤ length output
      → whole_output w n bytes.list last e output ≡ receipt w n (lsh w n m) (length m) ++ drop receipt_bytes output

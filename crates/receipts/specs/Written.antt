-- What is read back from a receipt that Whole or Close wrote.
-- Assumes nothing.
use Rattle.std.specs.Prelude.{◌≡◌, Bool, true, List, ℕ}
use Rattle.lsh.specs.Bits.{bytes_of_bits}
use Rattle.receipts.specs.Parts.{word_size_of, digest_length_of, digest_of, bit_length_of}
use Rattle.receipts.specs.WellFormed.{well_formed}
use Rattle.receipts.specs.Same.{is_receipt_long}

-- r is well formed, and of this word size, digest and message length
pub record Written (w n : ℕ) (d : List Bool) (bits : ℕ) (r : List ℕ) : Type 0 where
  pub long : is_receipt_long r ≡ true
  pub form : well_formed r ≡ true
  pub word_size : word_size_of r ≡ w
  pub digest_length : digest_length_of r ≡ n
  pub digest : digest_of r ≡ bytes_of_bits d
  pub bit_length : bit_length_of r ≡ bits

-- When as many bytes as a receipt has are a receipt that could have been written ("Same" of document 01, and W3 of document 02).
-- Assumes nothing.
use Rattle.std.specs.Prelude.{◌≡◌, Bool, true, ◌&&◌, ◌||◌, List, ℕ, ◌+◌, ◌-◌, ◌/◌, ◌%◌, ◌^◌, eqb, leb, length, take, drop}
use Rattle.lsh.specs.Tabulate.{at}
use Rattle.lsh.specs.WordSize.{is_word_size}
use Rattle.lsh.specs.ByteString.{Bytes}
use Rattle.limits.specs.Limits.{is_digest_length}
use Rattle.receipts.specs.Receipt.{receipt_bytes, digest_place, length_place}
use Rattle.receipts.specs.Ending.{most_bits}
use Rattle.lists.specs.Lists.{all_zero}
use Rattle.receipts.specs.Parts.{word_size_of, digest_length_of, bit_length_of}

-- the low bits of the last byte of a digest of n bits are 0 where the digest does not use them
unfoldable pub unused_zero : List ℕ → ℕ → Bool
unused_zero r n = eqb (n % 8) 0 || eqb (at r (digest_place + n / 8) % 2 ^ (8 - n % 8)) 0

-- each byte after a digest of n bits is 0, up to the message's length
unfoldable pub zero_after : List ℕ → ℕ → Bool
zero_after r n = all_zero (drop (digest_place + (n + 7) / 8) (take length_place r))

-- byte 0 is a word size, byte 1 is 0, n is a digest length, what the digest does not use is 0, and the message is not too long
unfoldable pub well_formed : List ℕ → Bool
well_formed r =
    is_word_size (word_size_of r)
    && eqb (at r 1) 0
    && is_digest_length (word_size_of r) (digest_length_of r)
    && unused_zero r (digest_length_of r)
    && zero_after r (digest_length_of r)
    && leb (bit_length_of r) most_bits

-- r is a well-formed receipt: as many bytes as a receipt has, in its form
pub record IsReceipt (r : List ℕ) : Type 0 where
  pub long : length r ≡ receipt_bytes
  pub bytes : Bytes r
  pub form : well_formed r ≡ true

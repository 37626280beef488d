-- The digest of a byte string, by the chain that is reached: over the string, or over what follows its first whole blocks.
-- Assumes nothing.
use mathlib.Core.Path.{◌≡◌, sym, ap, ◌∙◌}
use mathlib.Core.Bool.{Bool, true}
use mathlib.Core.List.{List, [], ◌∷◌, ◌++◌, append-nil, append_assoc}
use Prim.Native.Nat.{ℕ, ◌-◌, ◌/◌, ◌%◌, ◌<◌}
use native.Mathlib.Nat.{zero-mod}
use native.Mathlib.Omega.{arith}
use lib.ListN.{length, replicate}
use Rattle.lsh.specs.WordSize.{WordSize, is_word_size, size_of, block_bytes}
use Rattle.lsh.specs.Block.{forwards}
use Rattle.lsh.specs.Opening.{opening}
use Rattle.lsh.specs.Bits.{bits_of, bytes_of_bits}
use Rattle.lsh.specs.Padding.{padded, blocks_of}
use Rattle.lsh.specs.Hash.{digest, hash, lsh}
use Rattle.lsh.proofs.Figures.{block-some}
use Rattle.lsh.specs.ByteString.{Bytes}
use Rattle.lsh.proofs.Bytes.{bytes-append}
use Rattle.lsh.proofs.Padding.{length_rest, blocks-short}
use Rattle.lsh.proofs.Splitting.{forwards-split, rest-split}
use Rattle.message.proofs.Padded.{padded-bytes}
use Rattle.limits.specs.Limits.{is_digest_length}
use Rattle.limits.proofs.Limits.{digest-most}
use Rattle.receipts.proofs.Receipts.{length-bytes}
use Rattle.tags.specs.Hmac.{hash_bytes}

module _ (w n : ℕ) where
  abbrev Z : WordSize
  Z = size_of w

  abbrev B : ℕ
  B = block_bytes Z

  some : 0 < B
  some = block-some w

  -- what padding puts after a string of so many bytes
  abbrev tail : ℕ → List ℕ
  tail size = 128 ∷ replicate (B - 1 - size % B) 0

  -- the digest of s, whose blocks are run on the chain t
  abbrev pub digest_on : List ℕ → List ℕ → List ℕ
  digest_on t s = bytes_of_bits (digest Z n (forwards Z (blocks_of Z (s ++ tail (length s))) t))

  padded-is : (s : List ℕ) → Bytes s → bytes_of_bits (padded Z (bits_of s)) ≡ s ++ tail (length s)
  padded-is s bytes =
      ap (λ (m : List Bool). bytes_of_bits (padded Z m)) (sym (append-nil (bits_of s)))
      ∙ padded-bytes Z s 0 0 some bytes (omega arith) (omega arith) (zero-mod 256)

  -- after the string p, which is whole blocks
  module _ (p : List ℕ) (whole : length p % B ≡ 0) (front : Bytes p) where
    size-after : (s : List ℕ) → length (p ++ s) % B ≡ length s % B
    size-after s = sym (length_rest Z some (p ++ s)) ∙ ap length (rest-split Z some p whole s) ∙ length_rest Z some s

    pub hash-after : (s : List ℕ) → Bytes s → hash_bytes w n (p ++ s) ≡ digest_on (forwards Z (blocks_of Z p) (opening Z n)) s
    unfolding hash_bytes lsh hash
    hash-after s bytes =
        ap (λ (m : List ℕ). bytes_of_bits (digest Z n (forwards Z (blocks_of Z m) (opening Z n))))
        (padded-is (p ++ s) (bytes-append p s front bytes)
        ∙ ap (λ (k : ℕ). (p ++ s) ++ 128 ∷ replicate (B - 1 - k) 0) (size-after s)
        ∙ append_assoc p s (tail (length s)))
        ∙ ap (λ (t : List ℕ). bytes_of_bits (digest Z n t)) (forwards-split Z some p whole (s ++ tail (length s)) (opening Z n))

  -- of the whole string
  pub hash-is : (s : List ℕ) → Bytes s → hash_bytes w n s ≡ digest_on (opening Z n) s
  unfolding forwards
  hash-is s bytes =
      hash-after [] (zero-mod B) (λ i. omega arith) s bytes
      ∙ ap (λ (bs : List (List ℕ)). digest_on (forwards Z bs (opening Z n)) s) (blocks-short Z some [] some)

  module _ (word : is_word_size w ≡ true) (digest_length : is_digest_length w n ≡ true) (bytewise : n % 8 ≡ 0) where
    pub length-hash : (s : List ℕ) → length (hash_bytes w n s) ≡ n / 8
    unfolding hash_bytes lsh hash
    length-hash s = length-bytes w n _ word (digest-most w n digest_length) ∙ omega arith

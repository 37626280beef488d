-- The block of a key: it has as many bytes as a block, and so has it with each byte changed.
-- Assumes nothing.
use mathlib.Core.Path.{◌≡◌, refl, sym, ap, ap₂, ◌∙◌}
use mathlib.Core.Bool.{Bool, true, false, cond}
use mathlib.Core.List.{List, ◌++◌}
use Prim.Native.Nat.{ℕ, ◌+◌, ◌-◌, ◌/◌, ◌%◌, ◌≤◌, ◌<◌}
use native.Mathlib.Nat.{mod_self}
use native.Mathlib.Omega.{arith}
use borrow.Author.Tests.{lt-ltb, le-ltb, ltb-false}
use lib.Dec.{ltb}
use lib.ListN.{length, take, replicate}
use lib.Seq.{length-take-le, get_or-take, take-append-add}
use Rattle.lsh.specs.Tabulate.{at}
use Rattle.lsh.specs.Word.{xor}
use Rattle.lsh.specs.WordSize.{WordSize, is_word_size, size_of, block_bytes}
use Rattle.lsh.specs.Block.{forwards}
use Rattle.lsh.specs.Opening.{opening}
use Rattle.lsh.specs.Padding.{blocks_of}
use Rattle.lsh.proofs.Figures.{bits_are}
use Rattle.lsh.proofs.Word.{xor_lt}
use Rattle.lsh.proofs.Tabulate.{length-tabulate, at-tabulate, tabulate-ext, tabulate-all}
use Rattle.lsh.specs.ByteString.{Bytes}
use Rattle.limits.specs.Limits.{longest_block, is_digest_length}
use Rattle.lists.specs.ZeroFilled.{zero_filled}
use Rattle.limits.proofs.Limits.{block-most, digest-most}
use Rattle.lists.proofs.Zeros.{take-replicate, filled-length}
use Rattle.tags.specs.Hmac.{hash_bytes, inner_byte, key_block, xor_each, inner_key}
use Rattle.tags.proofs.Digests.{digest_on, hash-after, length-hash}

-- each byte exclusive or x

length-xor : (x : ℕ) (s : List ℕ) → length (xor_each x s) ≡ length s
unfolding xor_each
length-xor x s = length-tabulate (length s) (λ i. xor 8 (at s i) x)

xor_bytes : (x : ℕ) (s : List ℕ) → Bytes (xor_each x s)
unfolding xor_each
xor_bytes x s = tabulate-all (λ (b : ℕ). b < 256) (length s) _ (omega arith) (λ k h. xor_lt 8 (at s k) x)

take-xor : (k x : ℕ) (s : List ℕ) → k ≤ length s → take k (xor_each x s) ≡ xor_each x (take k s)
unfolding xor_each
take-xor k x s le =
    let size : length (take k s) ≡ k = length-take-le k s le in
    let all : length (xor_each x s) ≡ length s = length-xor x s in
    sym (tabulate-ext (length (take k s)) (λ i. xor 8 (at (take k s) i) x) (take k (xor_each x s))
    (length-take-le k (xor_each x s) (omega arith) ∙ sym size)
    (λ i lt.
    let inside : i < k = omega arith in
    ap (λ (b : ℕ). xor 8 b x) (get_or-take k s i 0 inside)
    ∙ sym (get_or-take k (xor_each x s) i 0 inside ∙ at-tabulate (length s) (λ j. xor 8 (at s j) x) i (omega arith))))

-- the front of a string that zeros fill
take-filled : (k n : ℕ) (s : List ℕ) → length s ≤ k → k ≤ n → take k (zero_filled n s) ≡ zero_filled k s
take-filled k n s short le =
    let parts : k ≡ length s + (k - length s) = omega arith in
    ap (λ (i : ℕ). take i (zero_filled n s)) parts
    ∙ take-append-add s (replicate (n - length s) 0) (k - length s)
    ∙ ap (λ (r : List ℕ). s ++ r) (take-replicate (k - length s) (n - length s) 0 (omega arith))

-- by w, in arrays as long as the longest block: zeros after a string, and a block that stands at the front, changed
module _ (w : ℕ) where
  pub filled-front : (s : List ℕ) {r : List ℕ} → r ≡ zero_filled longest_block s → length s ≤ block_bytes (size_of w)
      → take (block_bytes (size_of w)) r ≡ zero_filled (block_bytes (size_of w)) s
  filled-front s is short = ap (take (block_bytes (size_of w))) is ∙ take-filled (block_bytes (size_of w)) longest_block s short (block-most w)

  pub xored-front : (x : ℕ) (b : List ℕ) → length b ≡ longest_block → {k : ℕ} {r : List ℕ} → k ≡ block_bytes (size_of w) → r ≡ xor_each x b
      → take k r ≡ xor_each x (take (block_bytes (size_of w)) b)
  xored-front x b long size is =
      ap₂ (λ (i : ℕ) (s : List ℕ). take i s) size is ∙ take-xor (block_bytes (size_of w)) x b (omega (arith, block-most w))

module _ (w n : ℕ) where
  abbrev Z : WordSize
  Z = size_of w

  abbrev B : ℕ
  B = block_bytes Z

  -- the digest of a block, each byte exclusive or x, and of a string is that of the string on the chain after the block
  pub keyed-hash : (b : List ℕ) → length b ≡ B → (x : ℕ) (s : List ℕ) → Bytes s → {t c d : List ℕ} → t ≡ opening Z n
      → c ≡ forwards Z (blocks_of Z (xor_each x b)) t → d ≡ digest_on w n c s → d ≡ hash_bytes w n (xor_each x b ++ s)
  keyed-hash b one x s bytes first run is =
      let whole : length (xor_each x b) % B ≡ 0 = ap (λ (k : ℕ). k % B) (length-xor x b ∙ one) ∙ mod_self B in
      is
      ∙ ap (λ (v : List ℕ). digest_on w n v s) (run ∙ ap (forwards Z (blocks_of Z (xor_each x b))) first)
      ∙ sym (hash-after w n (xor_each x b) whole (xor_bytes x b) s bytes)

  module _ (key : List ℕ) where
    pub long-key : B < length key → zero_filled B (hash_bytes w n key) ≡ key_block w n key
    unfolding key_block
    long-key h = rw (lt-ltb B (length key) h)

    pub short-key : length key ≤ B → zero_filled B key ≡ key_block w n key
    unfolding key_block
    short-key h = rw (le-ltb B (length key) h)

    pub inner-bytes : Bytes (inner_key w n key)
    unfolding inner_key
    inner-bytes = xor_bytes inner_byte (key_block w n key)

  module _ (word : is_word_size w ≡ true) (digest_length : is_digest_length w n ≡ true) (bytewise : n % 8 ≡ 0) where
    pub digest-short : n / 8 ≤ B
    unfolding block_bytes
    digest-short = omega (arith, digest-most w n digest_length, bits_are w word)

    module _ (key : List ℕ) where
      used-short : (b : Bool) → ltb B (length key) ≡ b → length (cond b (hash_bytes w n key) key) ≤ B
      used-short true is = omega (arith, length-hash w n word digest_length bytewise key, digest-short)
      used-short false is = ltb-false B (length key) is

      pub inner-length : length (inner_key w n key) ≡ B
      unfolding inner_key key_block
      inner-length =
          length-xor inner_byte (key_block w n key)
          ∙ filled-length B (cond (ltb B (length key)) (hash_bytes w n key) key) (used-short (ltb B (length key)) refl)

-- The record of a byte string within the limit is sound, it holds the bytes after the last whole block, and that of no bytes is what Open makes. That of
-- whole blocks is made of their number and their chain.
-- Assumes nothing.
use mathlib.Core.Path.{◌≡◌, refl, sym, ap, ◌∙◌}
use mathlib.Core.Bool.{true, false}
use mathlib.Core.List.{List, []}
use Prim.Native.Nat.{ℕ, ◌-◌, ◌*◌, ◌%◌, ◌^◌, ◌≤◌}
use native.Mathlib.Nat.{zero-mul, zero-div, mul-mod_left, le_of_eq}
use borrow.Author.Tests.{le-leb}
use lib.ListN.{length, take, replicate}
use lib.Seq.{length-take-le, take_at}
use Rattle.lsh.specs.WordSize.{WordSize, is_word_size, size_of, block_bytes}
use Rattle.lsh.specs.Block.{Chain, forwards}
use Rattle.lsh.specs.Opening.{opening}
use Rattle.lsh.specs.Padding.{first_blocks, blocks_of, rest_of}
use Rattle.lsh.specs.Chains.{chain_after}
use Rattle.lsh.proofs.Figures.{amounts, block-some}
use Rattle.lsh.proofs.Blocks.{forwards-chain}
use Rattle.lsh.proofs.Opening.{opening-chain}
use Rattle.lsh.proofs.Padding.{length_rest, rest-none}
use Rattle.lsh.proofs.Chains.{after-take}
use Rattle.limits.specs.Limits.{longest_block, is_digest_length, limit}
use Rattle.lists.specs.Lists.{all_below}
use Rattle.orders.specs.Split.{not_begun}
use Rattle.orders.specs.Record.{held_of, sound, is_begun, held_bytes, record_of, record_at}
use Rattle.orders.specs.Open.{opened, open_call}
use Rattle.lists.proofs.Lists.{filled_zero}
use Rattle.orders.proofs.Sound.{chain-below}
use Rattle.orders.proofs.Begun.{not-begun-sound}

module _ (w n : ℕ) (m : List ℕ) (word : is_word_size w ≡ true) where
  abbrev Z : WordSize
  Z = size_of w

  abbrev chain : List ℕ
  chain = forwards Z (blocks_of Z m) (opening Z n)

  chain-is : Chain Z chain
  chain-is = forwards-chain Z (amounts w) (blocks_of Z m) (opening Z n) (opening-chain w n)

  below : all_below (2 ^ w) chain ≡ true
  below = chain-below w chain word chain-is

  size : length (rest_of Z m) ≡ length m % block_bytes Z
  size = length_rest Z (block-some w) m

  pub held-record : held_bytes (record_of w n m) ≡ rest_of Z m
  unfolding held_bytes record_of held_of
  held-record = take_at (rest_of Z m) (replicate (longest_block - length (rest_of Z m)) 0) (length m % block_bytes Z) size

  pub record-sound : is_digest_length w n ≡ true → length m ≤ limit → sound (record_of w n m) ≡ true
  unfolding sound record_of held_of
  record-sound digest few =
      rw (
        word,
        digest,
        le-leb (length m) limit few,
        below,
        filled_zero longest_block (rest_of Z m) (length m % block_bytes Z) (le_of_eq size),
        not-begun-sound w (length m) chain,
      )

-- no split rewind is begun in it
pub record-idle : (w n : ℕ) (m : List ℕ) → is_begun (record_of w n m) ≡ false
unfolding is_begun record_of not_begun
record-idle w n m = refl

-- the chain after the first k blocks of s, with no held bytes, is the record of those blocks
pub record-at : (w n k : ℕ) (s : List ℕ) → k * block_bytes (size_of w) ≤ length s
    → record_at w n k (chain_after (size_of w) (opening (size_of w) n) s k) ≡ record_of w n (take (k * block_bytes (size_of w)) s)
unfolding record_at record_of
record-at w n k s le =
    let z : WordSize = size_of w in
    let B : ℕ = block_bytes z in
    let front : List ℕ = take (k * B) s in
    let size : length front ≡ k * B = length-take-le (k * B) s le in
    let none : rest_of z front ≡ [] = rest-none z (block-some w) front (ap (λ (m : ℕ). m % B) size ∙ mul-mod_left k B) in
    λ i. record {
      w = w;
      n = n;
      total = sym size i;
      chain = after-take z (block-some w) (opening z n) s k le i;
      held = ap held_of (sym none) i;
      split = not_begun;
    }

-- what an accepted Open makes
pub open_next : (w n : ℕ) → is_word_size w ≡ true → is_digest_length w n ≡ true → (open_call w n).next ≡ opened w n
unfolding open_call
open_next w n word digest = rw (word, digest)

-- the record of no bytes is that of a new order
pub record-none : (w n : ℕ) → record_of w n [] ≡ opened w n
unfolding record_of opened blocks_of first_blocks rest_of forwards
record-none w n = rw (zero-div (block_bytes (size_of w)), zero-mul (block_bytes (size_of w)))

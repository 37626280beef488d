-- Pieces appended one after the other are one piece, and the record of a byte string is what Append makes of a new record.
-- Assumes nothing.
use mathlib.Core.Path.{◌≡◌, sym, ap, ◌∙◌}
use mathlib.Core.Bool.{true, cond}
use mathlib.Core.List.{List, ◌++◌, append_assoc}
use Prim.Native.Nat.{ℕ, ◌+◌, ◌≤◌, ◌<◌}
use native.Mathlib.Nat.{zero-add, zero-mod}
use native.Mathlib.Omega.{arith}
use borrow.Author.Tests.{lt-ltb, le-ltb}
use lib.Dec.{ltb}
use lib.ListN.{length, length-append, length-replicate}
use Rattle.lsh.specs.WordSize.{WordSize, is_word_size, size_of, block_bytes}
use Rattle.lsh.specs.Block.{forwards}
use Rattle.lsh.specs.Padding.{blocks_of, rest_of}
use Rattle.lsh.proofs.Figures.{block-some}
use Rattle.lsh.proofs.Blocks.{forwards-append}
use Rattle.lsh.proofs.Padding.{blocks-append, rest-append}
use Rattle.limits.specs.Limits.{longest_block, is_digest_length, limit}
use Rattle.orders.specs.declared.Record.{Record}
use Rattle.orders.specs.Record.{held_of, held_bytes, record_of, refused}
use Rattle.orders.specs.Open.{opened}
use Rattle.orders.proofs.Strings.{record-sound, record-idle}
use Rattle.orders.proofs.InTurn.{in-turn}
use Rattle.orders.specs.Append.{appended, append_accepted, append_call}
use Rattle.orders.proofs.AfterPiece.{held_after}

module _ (r : Record) (word : is_word_size r.w ≡ true) (long : length r.held ≡ 256) (p q : List ℕ) where
  abbrev Z : WordSize
  Z = size_of r.w

  abbrev whole : List ℕ
  whole = held_bytes r ++ p

  total-joins : r.total + length p + length q ≡ r.total + length (p ++ q)
  total-joins = omega (arith, length-append p q)

  chain-joins : forwards Z (blocks_of Z (held_bytes (appended r p) ++ q)) (forwards Z (blocks_of Z whole) r.chain) ≡ forwards Z (blocks_of Z (held_bytes r ++ (p ++ q))) r.chain
  chain-joins =
      ap (λ (s : List ℕ). forwards Z (blocks_of Z (s ++ q)) (forwards Z (blocks_of Z whole) r.chain)) (held_after r long p)
      ∙ sym (forwards-append Z (blocks_of Z whole) (blocks_of Z (rest_of Z whole ++ q)) r.chain)
      ∙ ap (λ (bs : List (List ℕ)). forwards Z bs r.chain) (sym (blocks-append Z (block-some r.w) whole q))
      ∙ ap (λ (s : List ℕ). forwards Z (blocks_of Z s) r.chain) (append_assoc (held_bytes r) p q)

  held-joins : held_of (rest_of Z (held_bytes (appended r p) ++ q)) ≡ held_of (rest_of Z (held_bytes r ++ (p ++ q)))
  held-joins =
      ap (λ (s : List ℕ). held_of (rest_of Z (s ++ q))) (held_after r long p)
      ∙ ap held_of (sym (rest-append Z (block-some r.w) whole q))
      ∙ ap (λ (s : List ℕ). held_of (rest_of Z s)) (append_assoc (held_bytes r) p q)

  pub append-joins : appended (appended r p) q ≡ appended r (p ++ q)
  unfolding appended
  append-joins = λ i. record { w = r.w; n = r.n; total = total-joins i; chain = chain-joins i; held = held-joins i; split = r.split }

-- the record of the bytes of one piece
pub record-piece : (w n : ℕ) (m : List ℕ) → appended (opened w n) m ≡ record_of w n m
unfolding record_of opened appended held_bytes
record-piece w n m = rw (zero-mod (block_bytes (size_of w)), zero-add (length m))

opened-long : (w n : ℕ) → length (opened w n).held ≡ longest_block
unfolding opened held_of
opened-long w n = length-replicate {A = ℕ} longest_block 0

pub append-record : (w n : ℕ) (m p : List ℕ) → is_word_size w ≡ true → appended (record_of w n m) p ≡ record_of w n (m ++ p)
unfolding opened
append-record w n m p word =
    ap (λ (r : Record). appended r p) (sym (record-piece w n m))
    ∙ append-joins (opened w n) word (opened-long w n) m p
    ∙ record-piece w n (m ++ p)

-- Append on it: within the limit, and above it
module _ (w n : ℕ) (m p : List ℕ) (word : is_word_size w ≡ true) (digest : is_digest_length w n ≡ true) (few : length m ≤ limit) where
  abbrev R : Record
  R = record_of w n m

  by-limit : append_call R p ≡ cond (ltb limit (R.total + length p)) (refused 5 R) (append_accepted R p)
  unfolding append_call
  by-limit = in-turn R (record-sound w n m word digest few) _ (record-idle w n m)

  pub append-over : limit < length m + length p → append_call R p ≡ refused 5 R
  unfolding record_of
  append-over over = by-limit ∙ rw (lt-ltb limit (length m + length p) over)

  pub append-within : length m + length p ≤ limit → append_call R p ≡ append_accepted R p
  unfolding record_of
  append-within within = by-limit ∙ rw (le-ltb limit (length m + length p) within)

-- What the tests of a sound record say.
-- Assumes nothing.
use mathlib.Core.Path.{◌≡◌, sym, subst}
use mathlib.Core.Bool.{Bool, true, ◌&&◌}
use mathlib.Core.List.{List}
use Prim.Native.Nat.{ℕ, ◌%◌, ◌^◌, ◌≤◌, ◌<◌}
use native.Mathlib.Omega.{arith}
use borrow.Author.Tests.{leb-true, le-leb}
use lib.Dec.{leb}
use lib.ListN.{length, drop}
use Rattle.lsh.specs.Tabulate.{at}
use Rattle.lsh.specs.WordSize.{is_word_size, size_of, block_bytes}
use Rattle.lsh.specs.Block.{Chain}
use Rattle.lsh.proofs.Figures.{by_size, bits_are}
use Rattle.limits.specs.Limits.{is_digest_length, limit}
use Rattle.orders.specs.declared.Record.{Record}
use Rattle.lists.specs.Lists.{all_below, all_zero}
use Rattle.orders.specs.Split.{split_sound}
use Rattle.orders.specs.Record.{sound}
use Rattle.lsh.proofs.Tests.{and-true}
use Rattle.lists.proofs.Lists.{at-below, all-below}

pub record Sound (r : Record) : Type 0 where
  pub word : is_word_size r.w ≡ true
  pub digest_length : is_digest_length r.w r.n ≡ true
  pub few : r.total ≤ limit
  pub below : all_below (2 ^ r.w) r.chain ≡ true
  pub zero : all_zero (drop (r.total % block_bytes (size_of r.w)) r.held) ≡ true
  pub split : split_sound r.w r.total r.chain r.split ≡ true

pub sounds : (r : Record) → sound r ≡ true → Sound r
unfolding sound
sounds r e =
    let a : Bool = is_word_size r.w in
    let b : Bool = is_digest_length r.w r.n in
    let c : Bool = leb r.total limit in
    let d : Bool = all_below (2 ^ r.w) r.chain in
    let z : Bool = all_zero (drop (r.total % block_bytes (size_of r.w)) r.held) in
    let x : Bool = split_sound r.w r.total r.chain r.split in
    let p5 : (a && b && c && d && z ≡ true) × (x ≡ true) = and-true (a && b && c && d && z) x e in
    let p4 : (a && b && c && d ≡ true) × (z ≡ true) = and-true (a && b && c && d) z p5.0 in
    let p3 : (a && b && c ≡ true) × (d ≡ true) = and-true (a && b && c) d p4.0 in
    let p2 : (a && b ≡ true) × (c ≡ true) = and-true (a && b) c p3.0 in
    record {
      word = (and-true a b p2.0).0;
      digest_length = (and-true a b p2.0).1;
      few = leb-true r.total limit p2.1;
      below = p3.1;
      zero = p4.1;
      split = p5.1;
    }

-- and back
pub is-sound : (r : Record) → Sound r → sound r ≡ true
unfolding sound
is-sound r s = rw (s.word, s.digest_length, le-leb r.total limit s.few, s.below, s.zero, s.split)

some_words : (w : ℕ) → is_word_size w ≡ true → 0 < 2 ^ w
some_words = by_size (λ (w : ℕ). 0 < 2 ^ w) (omega arith) (omega arith)

-- 16 words below 2 ^ w are a chain, and a chain's words are below 2 ^ w
pub chain-is : (w : ℕ) (t : List ℕ) → is_word_size w ≡ true → length t ≡ 16 → all_below (2 ^ w) t ≡ true → Chain (size_of w) t
chain-is w t e words below =
    record {
      words = words;
      below = λ l. subst (λ (v : ℕ). at t l < 2 ^ v) (sym (bits_are w e)) (at-below (2 ^ w) t (some_words w e) below l);
    }

pub chain-below : (w : ℕ) (t : List ℕ) → is_word_size w ≡ true → Chain (size_of w) t → all_below (2 ^ w) t ≡ true
chain-below w t e chain = all-below (2 ^ w) t (λ l. subst (λ (v : ℕ). at t l < 2 ^ v) (bits_are w e) (chain.below l))

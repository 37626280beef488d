-- What a sound record has of a split rewind, by whether one is begun.
-- Assumes nothing.
use mathlib.Core.Path.{◌≡◌, sym, ap, ◌∙◌}
use mathlib.Core.Bool.{Bool, true, false, not, ◌&&◌, ◌||◌, or-true, or-false}
use mathlib.Core.List.{List}
use Prim.Native.Nat.{ℕ, ◌/◌, ◌^◌, ◌≤◌}
use lib.Dec.{eqb, leb}
use lib.ListN.{length, drop, replicate}
use borrow.Author.Tests.{eqb-true, eq-eqb, leb-true, le-leb}
use Rattle.lsh.specs.WordSize.{size_of, block_bytes}
use Rattle.lsh.proofs.Tests.{and-true}
use Rattle.limits.specs.Limits.{longest_block}
use Rattle.lists.specs.Equal.{equal}
use Rattle.orders.specs.declared.Record.{Record}
use Rattle.orders.specs.declared.Split.{Split}
use Rattle.lists.specs.Lists.{all_below, all_zero}
use Rattle.orders.specs.Split.{not_begun, none_begun, one_begun, split_sound}
use Rattle.orders.specs.Record.{sound, is_begun, with_split}
use Rattle.lists.proofs.Lists.{all-zero, zero-all}
use Rattle.orders.proofs.Sound.{Sound, sounds, is-sound}

-- by the mark
module _ (w total : ℕ) (chain : List ℕ) (s : Split) where
  pub unless-one : eqb s.mark 1 ≡ false → split_sound w total chain s ≡ none_begun s
  unfolding split_sound one_begun
  unless-one e = rw e (or-false (none_begun s))

  pub unless-none : eqb s.mark 0 ≡ false → split_sound w total chain s ≡ one_begun w total chain s
  unfolding split_sound none_begun
  unless-none e = rw e

pub not-begun-sound : (w total : ℕ) (chain : List ℕ) → split_sound w total chain not_begun ≡ true
unfolding split_sound none_begun not_begun
not-begun-sound w total chain = rw (all-zero 16, all-zero longest_block)

-- one begun, with so many blocks handed back
pub record OneBegun (w total : ℕ) (chain : List ℕ) (s : Split) : Type 0 where
  pub mark : s.mark ≡ 1
  pub up_to : s.blocks ≤ total / block_bytes (size_of w)
  pub below : all_below (2 ^ w) s.second ≡ true
  pub zero : all_zero (drop (block_bytes (size_of w)) s.back) ≡ true
  pub first : (not (eqb s.blocks 0) || equal s.second chain && all_zero s.back) ≡ true

pub one-begun-sound : (w total : ℕ) (chain : List ℕ) (s : Split) → OneBegun w total chain s → split_sound w total chain s ≡ true
unfolding split_sound one_begun
one-begun-sound w total chain s h =
    rw (eq-eqb s.mark 1 h.mark, le-leb s.blocks (total / block_bytes (size_of w)) h.up_to, h.below, h.zero, h.first) (or-true (none_begun s))

pub with-sound : (r : Record) (s : Split) → sound r ≡ true → split_sound r.w r.total r.chain s ≡ true → sound (with_split r s) ≡ true
unfolding with_split
with-sound r s ok e =
    let h : Sound r = sounds r ok in
    is-sound (with_split r s)
    (record { word = h.word; digest_length = h.digest_length; few = h.few; below = h.below; zero = h.zero; split = e })

module _ (r : Record) (ok : sound r ≡ true) where
  abbrev S : Split
  S = r.split

  -- what the tests say where one is begun
  pub begun-is : is_begun r ≡ true → OneBegun r.w r.total r.chain S
  unfolding is_begun one_begun
  begun-is begun =
      let one : S.mark ≡ 1 = eqb-true S.mark 1 begun in
      let a : Bool = eqb S.mark 1 in
      let b : Bool = leb S.blocks (r.total / block_bytes (size_of r.w)) in
      let c : Bool = all_below (2 ^ r.w) S.second in
      let d : Bool = all_zero (drop (block_bytes (size_of r.w)) S.back) in
      let e : Bool = not (eqb S.blocks 0) || equal S.second r.chain && all_zero S.back in
      let all : a && b && c && d && e ≡ true =
      sym (unless-none r.w r.total r.chain S (rw one)) ∙ (sounds r ok).split in
      let p3 : (a && b && c && d ≡ true) × (e ≡ true) = and-true (a && b && c && d) e all in
      let p2 : (a && b && c ≡ true) × (d ≡ true) = and-true (a && b && c) d p3.0 in
      let p1 : (a && b ≡ true) × (c ≡ true) = and-true (a && b) c p2.0 in
      record {
        mark = one;
        up_to = leb-true S.blocks (r.total / block_bytes (size_of r.w)) (and-true a b p1.0).1;
        below = p1.1;
        zero = p2.1;
        first = p3.1;
      }

  -- where none is, what the record has of it is sound in any order
  pub none-sound : is_begun r ≡ false → (total : ℕ) (chain : List ℕ) → split_sound r.w total chain S ≡ true
  unfolding is_begun
  none-sound idle total chain =
      unless-one r.w total chain S idle ∙ sym (unless-one r.w r.total r.chain S idle) ∙ (sounds r ok).split

  -- and all are zero, 16 words and as many bytes as a block has at most, by the type of a record
  pub none_is : is_begun r ≡ false → length S.second ≡ 16 → length S.back ≡ longest_block → S ≡ not_begun
  unfolding is_begun none_begun not_begun
  none_is idle words long =
      let a : Bool = eqb S.mark 0 in
      let b : Bool = eqb S.blocks 0 in
      let c : Bool = all_zero S.second in
      let d : Bool = all_zero S.back in
      let all : a && b && c && d ≡ true = sym (unless-one r.w r.total r.chain S idle) ∙ (sounds r ok).split in
      let p2 : (a && b && c ≡ true) × (d ≡ true) = and-true (a && b && c) d all in
      let p1 : (a && b ≡ true) × (c ≡ true) = and-true (a && b) c p2.0 in
      let p0 : (a ≡ true) × (b ≡ true) = and-true a b p1.0 in
      λ i. record {
        mark = eqb-true S.mark 0 p0.0 i;
        second = (zero-all S.second p1.1 ∙ ap (λ (k : ℕ). replicate k 0) words) i;
        back = (zero-all S.back p2.1 ∙ ap (λ (k : ℕ). replicate k 0) long) i;
        blocks = eqb-true S.blocks 0 p0.1 i;
      }

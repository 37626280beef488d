-- The record of the bytes s with a split rewind begun and k blocks handed back: it is sound, what was handed back are the last bytes of s, and what the
-- steps make of it.
-- Assumes nothing.
use mathlib.Core.Path.{◌≡◌, refl, sym, ap, ap₂, ◌∙◌, subst}
use mathlib.Core.Bool.{Bool, true, false, cond, not, ◌&&◌, ◌||◌, false≢true}
use mathlib.Core.List.{List, []}
use Prim.Native.Nat.{ℕ, suc, ◌+◌, ◌-◌, ◌*◌, ◌/◌, ◌%◌, ◌≤◌, ◌<◌, zero-le}
use native.Mathlib.Nat.{sub-zero, one-mul, mod-lt, div-add-mod', mul-le-mul_right, suc-mul, le_of_eq}
use native.Mathlib.Omega.{arith}
use lib.Dec.{eqb}
use lib.ListN.{length, take, drop, replicate, length-drop, length-replicate}
use lib.Seq.{take_at, take-take, length-take-le}
use borrow.Author.Tests.{eq-eqb, ne_eqb, eqb-true}
use Rattle.lsh.specs.WordSize.{WordSize, is_word_size, size_of, block_bytes}
use Rattle.lsh.specs.Bytes.{words_of}
use Rattle.lsh.specs.Block.{Chain, forward, forwards, backwards}
use Rattle.lsh.specs.Opening.{opening}
use Rattle.lsh.specs.Padding.{blocks_of, rest_of}
use Rattle.lsh.specs.Chains.{chain_after}
use Rattle.lsh.proofs.Figures.{amounts, block-some}
use Rattle.lsh.proofs.Block.{backward-forward}
use Rattle.lsh.proofs.Blocks.{forwards-chain}
use Rattle.lsh.proofs.Opening.{opening-chain}
use Rattle.lsh.proofs.Padding.{length_rest, one_block}
use Rattle.lsh.proofs.Chains.{after_more, after-all, after-chain, after-take}
use Rattle.limits.specs.Limits.{longest_block, is_digest_length}
use Rattle.limits.proofs.Limits.{block-most}
use Rattle.lists.proofs.Zeros.{filled-length}
use Rattle.lists.specs.ZeroFilled.{zero_filled}
use Rattle.lists.specs.Equal.{equal}
use Rattle.lists.proofs.Equal.{equal-self}
use Rattle.lists.specs.Lists.{all_zero}
use Rattle.orders.specs.declared.Record.{Record}
use Rattle.orders.specs.declared.Split.{Split}
use Rattle.orders.specs.declared.Outcome.{Outcome}
use Rattle.orders.specs.Split.{not_begun}
use Rattle.orders.specs.Record.{held_of, held_bytes, sound, is_begun, with_split, record_of}
use Rattle.orders.specs.Arrays.{Arrays}
use Rattle.lists.proofs.Lists.{all-zero, filled_zero}
use Rattle.orders.proofs.Sound.{chain-below}
use Rattle.orders.proofs.Begun.{one-begun-sound, with-sound}
use Rattle.orders.proofs.Strings.{held-record, record-idle}
use Rattle.orders.specs.Rewind.{keeps_too_much, reached, cut_call}
use Rattle.orders.proofs.Lengths.{OnBlock, keeps-few}
use Rattle.orders.specs.Begin.{begun}
use Rattle.orders.specs.HandBack.{handed_back}
use Rattle.orders.specs.End.{last_bytes, end_cut}
use Rattle.orders.specs.OneRewind.{answered_on}
use Rattle.orders.proofs.HandBacks.{before-is, blocks-on}
use Rattle.orders.proofs.OneRewind.{Handed, end-cut-is, same-cut}
use Rattle.tape.specs.Tape.{whole_blocks}
use Rattle.tape.specs.TapeRecord.{block_after, handed_last, tape_split}
use Rattle.tape.proofs.Records.{WithinLimit, sound-is, reached-is, last-bytes, cut-next}

module _ (w : ℕ) (word : is_word_size w ≡ true) (n : ℕ) (digest : is_digest_length w n ≡ true) (s : List ℕ) (short : WithinLimit s) where
  abbrev Z : WordSize
  Z = size_of w

  abbrev B : ℕ
  B = block_bytes Z

  abbrev O : List ℕ
  O = opening Z n

  abbrev R : Record
  R = record_of w n s

  -- how many bytes are held, and how many blocks are before them
  abbrev fill : ℕ
  fill = length s % B

  abbrev m : ℕ
  m = length s / B

  some : 0 < B
  some = block-some w

  ok : sound R ≡ true
  ok = sound-is w word n digest s short

  idle : is_begun R ≡ false
  idle = record-idle w n s

  -- a chain over whole blocks of s
  chain-of : (k : ℕ) → Chain Z (chain_after Z O s k)
  chain-of k = after-chain Z O s (amounts w) (opening-chain w n) k

  rest-length : length (rest_of Z s) ≡ fill
  rest-length = length_rest Z some s

  arrays : Arrays R
  unfolding record_of not_begun held_of
  arrays =
      record {
        words = (forwards-chain Z (amounts w) (blocks_of Z s) O (opening-chain w n)).words;
        long = filled-length longest_block (rest_of Z s) (omega (arith, rest-length, mod-lt (length s) some, block-most w));
        second_words = length-replicate {A = ℕ} 16 0;
        back_long = length-replicate {A = ℕ} longest_block 0;
      }

  -- with k blocks handed back
  module _ (k : ℕ) (le : k ≤ whole_blocks w s) where
    abbrev S : Split
    S = tape_split w n s k

    abbrev Y : Record
    Y = with_split R S

    abbrev size : ℕ
    size = k * B + fill

    up-to : k ≤ m
    unfolding whole_blocks
    up-to = le

    on : OnBlock B (length s) size
    on = blocks-on B (length s) k up-to

    -- the bytes handed back, and those before them
    abbrev h : List ℕ
    h = drop (length s - size) s

    h-size : length h ≡ size
    h-size = omega (arith, length-drop (length s - size) s, on.fits)

    before : length s - size ≡ (m - k) * B
    before = before-is B (length s) k up-to

    back : h ≡ drop (length s - length h) s
    back = ap (λ (i : ℕ). drop (length s - i) s) (sym h-size)

    on-h : OnBlock B (length s) (length h)
    on-h = subst (OnBlock B (length s)) (sym h-size) on

    -- the block handed back last begins h
    last-is : block_after w s (m - k) ≡ take B h
    unfolding block_after
    last-is = ap (λ (i : ℕ). take B (drop i s)) (sym before)

    none-handed : eqb k 0 ≡ true → handed_last w s k ≡ []
    unfolding handed_last
    none-handed e = rw e

    some-handed : eqb k 0 ≡ false → handed_last w s k ≡ take B h
    unfolding handed_last whole_blocks
    some-handed e = rw e last-is

    last-length : eqb k 0 ≡ false → length (take B h) ≡ B
    last-length e =
        let other : k ≡ 0 → ⊥ = λ z. false≢true (sym e ∙ eq-eqb k 0 z) in
        let one : 1 ≤ k = omega (arith, other) in
        length-take-le B h (omega (arith, h-size, mul-le-mul_right B one, one-mul B))

    -- it is no longer than a block, so what is after a block's bytes is zero
    last-most : length (handed_last w s k) ≤ B
    last-most = go (eqb k 0) refl
      where
        go : (t : Bool) → eqb k 0 ≡ t → length (handed_last w s k) ≤ B
        go true e = rw (none-handed e) zero-le
        go false e = rw (some-handed e) (le_of_eq (last-length e))

    zero_is : all_zero (drop B (held_of (handed_last w s k))) ≡ true
    unfolding held_of
    zero_is = filled_zero longest_block (handed_last w s k) B last-most

    -- with no block handed back the second chain is the first, and no byte was handed back
    first-is : (not (eqb k 0) || equal S.second R.chain && all_zero S.back) ≡ true
    unfolding tape_split record_of whole_blocks held_of
    first-is = go (eqb k 0) refl
      where
        go : (t : Bool) → eqb k 0 ≡ t
            → (not t || equal (chain_after Z O s (m - k)) R.chain && all_zero (zero_filled longest_block (handed_last w s k))) ≡ true
        go true e =
            let all : m - k ≡ m = omega (arith, eqb-true k 0 e) in
            rw (all, after-all Z O s, equal-self R.chain, none-handed e) (all-zero longest_block)
        go false e = refl

    -- the chain before h
    second_is : S.second ≡ reached R h
    unfolding tape_split whole_blocks
    second_is =
        after-take Z some O s (m - k) (omega (arith, before))
        ∙ sym (reached-is w word n s 0 h on-h (zero-le, some) back ∙ ap (λ (i : ℕ). forwards Z (blocks_of Z (take i s)) O) (ap (λ (i : ℕ). length s - i) h-size ∙ before))

    -- with no block handed back h are the held bytes
    none_more : eqb k 0 ≡ true → rest_of Z s ≡ h
    unfolding rest_of
    none_more e =
        let all : m ≡ m - k = omega (arith, eqb-true k 0 e) in
        let from : m * B ≡ length s - size = ap (λ (i : ℕ). i * B) all ∙ sym before in
        ap (λ (i : ℕ). drop i s) from

    -- the bytes whose first remain begin h
    last-first : (keep : ℕ) → keep ≤ length h → keep < B → take keep (last_bytes Y) ≡ take keep h
    unfolding last_bytes tape_split with_split record_of held_of held_bytes
    last-first keep few short = go (eqb k 0) refl
      where
        go : (t : Bool) → eqb k 0 ≡ t
            → take keep (cond t (held_bytes R) (take B (zero_filled longest_block (handed_last w s k)))) ≡ take keep h
        go true e = ap (take keep) (held-record w n s word ∙ none_more e)
        go false e =
            ap (take keep) (rw (some-handed e) (take_at (take B h) (replicate (longest_block - length (take B h)) 0) B (last-length e)))
            ∙ take-take keep B h (omega (arith, short))

    handed-is : Handed R arrays ok idle h S
    unfolding tape_split record_of whole_blocks
    handed-is =
        record {
          one =
              record {
                mark = refl;
                up_to = up-to;
                below = chain-below w (chain_after Z O s (m - k)) word (chain-of (m - k));
                zero = zero_is;
                first = first-is;
              };
          second = second_is;
          size = h-size;
          held = last-bytes w word n s 0 h on-h (zero-le, some) back ∙ sym (held-record w n s word);
          first = last-first;
        }

    pub sound-y : sound Y ≡ true
    unfolding record_of
    sound-y = with-sound R S ok (one-begun-sound w (length s) R.chain S handed-is.one)

    pub begun-y : is_begun Y ≡ true
    unfolding is_begun with_split tape_split
    begun-y = refl

    -- the end where the tests before 9 are passed: the record of what remains
    pub end-cut : (keep : ℕ) → keeps_too_much B keep size ≡ false
        → ◌≡◌ {A = Outcome} (cut_call Y (end_cut Y keep)) (record { number = 0; count = size / B; next = record_of w n (take (length s - size + keep) s) })
    unfolding record_of answered_on
    end-cut keep few =
        let most : (keep ≤ size) × (keep < B) = keeps-few B keep size few in
        let some-h : keep ≤ length h = omega (arith, h-size, most.0) in
        ap (cut_call Y) (end-cut-is R arrays ok idle h S handed-is keep)
        ∙ same-cut R arrays ok idle h S handed-is keep some-h most.1
        ∙ ap (answered_on Y) (cut-next w word n s keep h on-h (some-h, most.1) back)
        ∙ ap (λ (i : ℕ). record { number = 0; count = i / B; next = record_of w n (take (length s - i + keep) s) }) h-size

    -- a block more
    module _ (b : List ℕ) (is : b ≡ block_after w s (m - (k + 1))) (less : k < m) where
      -- the blocks that are left then
      abbrev j : ℕ
      j = m - (k + 1)

      b-length : length b ≡ B
      unfolding block_after
      b-length =
          let fits : suc j ≤ m = omega (arith, less) in
          ap length is
          ∙ length-take-le B (drop (j * B) s)
          (omega (arith, length-drop (j * B) s, mul-le-mul_right B fits, suc-mul j B, div-add-mod' (length s) B))

      run-back : backwards Z (blocks_of Z b) (chain_after Z O s (m - k)) ≡ chain_after Z O s j
      unfolding block_after backwards forward
      run-back =
          let next : m - k ≡ suc j = omega (arith, less) in
          ap₂ (backwards Z) (one_block Z some b b-length) (ap (chain_after Z O s) next ∙ after_more Z O s j ∙ ap (λ (t : List ℕ). forward Z (words_of Z 32 t) (chain_after Z O s j)) (sym is))
          ∙ backward-forward Z (amounts w) (words_of Z 32 b) Z.steps (chain_after Z O s j) (chain-of j)

      pub block_more : handed_back Y b ≡ tape_split w n s (k + 1)
      unfolding handed_back with_split record_of tape_split handed_last whole_blocks
      block_more =
          let more : eqb (k + 1) 0 ≡ false = ne_eqb (k + 1) 0 (λ e. omega (arith, e)) in
          rw (more, run-back) (ap (λ (t : List ℕ). record { mark = 1; second = chain_after Z O s j; back = held_of t; blocks = k + 1 }) is)

  -- none yet
  pub none_yet : begun R ≡ tape_split w n s 0
  unfolding begun record_of tape_split handed_last whole_blocks
  none_yet = rw (sub-zero m, after-all Z O s)

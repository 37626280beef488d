-- The record of bytes that are joined, and of bytes that are cut: what Append and Rewind make of the record of a byte string.
-- Assumes nothing.
use mathlib.Core.Path.{◌≡◌, refl, sym, ap, ◌∙◌}
use mathlib.Core.Bool.{Bool, true, false}
use mathlib.Core.List.{List, [], ◌++◌}
use Prim.Native.Nat.{ℕ, ◌+◌, ◌-◌, ◌*◌, ◌/◌, ◌%◌, ◌≤◌, ◌<◌}
use native.Mathlib.Nat.{div-add-mod'}
use native.Mathlib.Omega.{arith}
use lib.Dec.{eqb}
use lib.ListN.{length, take, drop, length-append, length-take, take-append-drop}
use lib.Seq.{length-take-le, take-append-add}
use borrow.Author.Tests.{eqb-true}
use Rattle.lsh.specs.WordSize.{WordSize, is_word_size, size_of, block_bytes}
use Rattle.lsh.specs.Block.{forwards, backwards}
use Rattle.lsh.specs.Opening.{opening}
use Rattle.lsh.specs.Padding.{blocks_of, rest_of}
use Rattle.lsh.proofs.Figures.{amounts, block-some}
use Rattle.lsh.specs.ByteString.{Bytes}
use Rattle.lsh.proofs.Bytes.{bytes_take}
use Rattle.lsh.proofs.Blocks.{forwards-chain, backwards-forwards, forwards-append}
use Rattle.lsh.proofs.Opening.{opening-chain}
use Rattle.lsh.proofs.Padding.{blocks-short}
use Rattle.limits.specs.Limits.{is_digest_length, limit}
use Rattle.lists.proofs.Equal.{equal-self}
use Rattle.orders.specs.declared.Outcome.{Outcome}
use Rattle.orders.specs.Split.{not_begun}
use Rattle.orders.specs.Record.{sound, held_of, record_of}
use Rattle.orders.proofs.Strings.{held-record, record-sound}
use Rattle.orders.specs.Append.{append_accepted}
use Rattle.orders.proofs.Joins.{append-record}
use Rattle.orders.specs.Rewind.{held_differs, reached, Cut, opening_differs, rewound, cut_call}
use Rattle.orders.proofs.Lengths.{OnBlock, same-fill}
use Rattle.tape.specs.Tape.{whole_blocks}
use Rattle.lsh.proofs.Splitting.{blocks-split, rest-split, blocks-kept, rest-kept}

-- what holds of the bytes of a tape throughout
pub record WithinLimit (s : List ℕ) : Type 0 where
  pub few : length s ≤ limit
  pub bytes : Bytes s

pub take_within : (i : ℕ) (s : List ℕ) → WithinLimit s → WithinLimit (take i s)
take_within i s short = record { few = omega (arith, length-take i s, short.few); bytes = bytes_take i s short.bytes }

module _ (w : ℕ) (word : is_word_size w ≡ true) where
  abbrev Z : WordSize
  Z = size_of w

  abbrev B : ℕ
  B = block_bytes Z

  some : 0 < B
  some = block-some w

  module _ (n : ℕ) where
    abbrev O : List ℕ
    O = opening Z n

    -- a Rewind of bytes that the tape has there
    module _
        (s : List ℕ)
        (keep : ℕ)
        (h : List ℕ)
        (on : OnBlock B (length s) (length h))
        (few : (keep ≤ length h) × (keep < B))
        (back : h ≡ drop (length s - length h) s) where
      abbrev before : List ℕ
      before = take (length s - length h) s

      size : length before ≡ length s - length h
      size = length-take-le (length s - length h) s (omega arith)

      whole : length before % B ≡ 0
      whole = ap (λ (k : ℕ). k % B) size ∙ on.whole

      joined : s ≡ before ++ h
      joined = sym (take-append-drop (length s - length h) s) ∙ ap (λ (r : List ℕ). before ++ r) (sym back)

      short : length (take keep h) < B
      short = omega (arith, length-take-le keep h few.0, few.1)

      remaining : take (length s - length h + keep) s ≡ before ++ take keep h
      remaining =
          ap (take (length s - length h + keep)) joined
          ∙ ap (λ (k : ℕ). take (k + keep) (before ++ h)) (sym size)
          ∙ take-append-add before h keep

      pub reached-is : reached (record_of w n s) h ≡ forwards Z (blocks_of Z before) O
      unfolding reached record_of
      reached-is =
          ap (λ (bs : List (List ℕ)). backwards Z (blocks_of Z h) (forwards Z bs O)) (ap (blocks_of Z) joined ∙ blocks-split Z some before whole h)
          ∙ ap (backwards Z (blocks_of Z h)) (forwards-append Z (blocks_of Z before) (blocks_of Z h) O)
          ∙ backwards-forwards Z (amounts w) (blocks_of Z h) (forwards Z (blocks_of Z before) O)
          (forwards-chain Z (amounts w) (blocks_of Z before) O (opening-chain w n))

      pub last-bytes : drop (length h - length s % B) h ≡ rest_of Z s
      unfolding rest_of
      last-bytes =
          let k : length h - length s % B ≡ length h / B * B = omega (arith, same-fill B (length s) (length h) on, div-add-mod' (length h) B) in
          ap (λ (i : ℕ). drop i h) k ∙ sym (ap (rest_of Z) joined ∙ rest-split Z some before whole h)

      pub held_same : held_differs (record_of w n s) h ≡ false
      unfolding held_differs record_of
      held_same = rw (last-bytes, held-record w n s word, equal-self (rest_of Z s))

      reached-opening : length s - length h ≡ 0 → reached (record_of w n s) h ≡ O
      unfolding forwards
      reached-opening none =
          reached-is ∙ ap (λ (k : ℕ). forwards Z (blocks_of Z (take k s)) O) none ∙ ap (λ (bs : List (List ℕ)). forwards Z bs O) (blocks-short Z some [] some)

      -- what it cuts off
      abbrev cut : Cut
      cut = record { size = length h; keep = keep; chain = reached (record_of w n s) h; bytes = h }

      opening-same : opening_differs (record_of w n s) cut ≡ false
      unfolding opening_differs record_of
      opening-same = go (eqb (length s - length h) 0) refl
        where
          go : (t : Bool) → eqb (length s - length h) 0 ≡ t → opening_differs (record_of w n s) cut ≡ false
          go true e = rw (e, reached-opening (eqb-true (length s - length h) 0 e), equal-self O)
          go false e = rw e

      rewind-next : rewound (record_of w n s) cut ≡ record_of w n (take (length s - length h + keep) s)
      unfolding rewound record_of
      rewind-next = λ i. record {
        w = w;
        n = n;
        total = sym (length-take-le (length s - length h + keep) s (omega (arith, few.0, on.fits))) i;
        chain = (reached-is ∙ ap (λ (bs : List (List ℕ)). forwards Z bs O) (sym (ap (blocks_of Z) remaining ∙ blocks-kept Z some before whole (take keep h) short))) i;
        held = ap held_of (sym (ap (rest_of Z) remaining ∙ rest-kept Z some before whole (take keep h) short)) i;
        split = not_begun;
      }

      -- the answer where the tests before 9 are passed
      pub cut-next : ◌≡◌ {A = Outcome} (cut_call (record_of w n s) cut)
          (record { number = 0; count = length h / B; next = record_of w n (take (length s - length h + keep) s) })
      unfolding cut_call record_of
      cut-next = rw (opening-same, rewind-next)

    module _ (digest : is_digest_length w n ≡ true) (s : List ℕ) (short : WithinLimit s) where
      pub sound-is : sound (record_of w n s) ≡ true
      sound-is = record-sound w n s word digest short.few

      -- an accepted Append gives the count of the tape, and the record of the tape that is left
      pub append-next : (p : List ℕ)
          → ◌≡◌ {A = Outcome} (append_accepted (record_of w n s) p) (record { number = 0; count = whole_blocks w (s ++ p) - whole_blocks w s; next = record_of w n (s ++ p) })
      unfolding append_accepted whole_blocks record_of
      append-next p = rw (append-record w n s p word, length-append s p)

-- A begin and the hand-backs after it that are accepted: the record is that of the order before them but for how far the rewind is, Abandon gives it
-- back, and the end is that of one Rewind over their bytes, joined as in the order.
-- Assumes nothing.
use mathlib.Core.Path.{◌≡◌, refl, sym, ap, ap₂, ◌∙◌, subst}
use mathlib.Core.Bool.{Bool, true, false, not, cond}
use mathlib.Core.List.{List, [], ◌∷◌, ◌++◌}
use Prim.Native.Nat.{ℕ, ◌+◌, ◌-◌, ◌*◌, ◌/◌, ◌%◌, ◌≤◌, ◌<◌, zero-le}
use native.Mathlib.Nat.{add-mul, one-mul, mod_self, mod-lt, zero-mul, le_of_eq}
use native.Mathlib.Omega.{arith}
use lib.Dec.{eqb}
use lib.ListN.{length, take, drop, replicate, length-append}
use lib.Seq.{take_at, take-append-le, drop-append-add}
use borrow.Author.Tests.{eq-eqb, ne_eqb, eqb-true, not-false}
use Rattle.lists.proofs.Lists.{filled_zero}
use Rattle.lsh.specs.WordSize.{WordSize, size_of, block_bytes}
use Rattle.lsh.specs.Block.{Chain, backwards}
use Rattle.lsh.specs.Padding.{blocks_of}
use Rattle.lsh.proofs.Figures.{amounts, block-some}
use Rattle.lsh.proofs.Blocks.{backwards-append, backwards-chain}
use Rattle.lsh.proofs.Padding.{blocks-short}
use Rattle.lsh.proofs.Splitting.{blocks-split}
use Rattle.limits.specs.Limits.{longest_block}
use Rattle.lists.specs.Equal.{equal}
use Rattle.lists.proofs.Equal.{equal-self, equal-true}
use Rattle.answers.proofs.Tests.{test, tested, passed}
use Rattle.orders.specs.declared.Record.{Record}
use Rattle.orders.specs.declared.Split.{Split}
use Rattle.orders.specs.declared.Outcome.{Outcome}
use Rattle.orders.specs.Split.{not_begun}
use Rattle.orders.specs.Record.{held_of, held_length, held_bytes, sound, is_begun, with_split, stepped, refused}
use Rattle.orders.specs.Arrays.{Arrays}
use Rattle.orders.proofs.Sound.{Sound, sounds, chain-is, chain-below}
use Rattle.orders.proofs.Begun.{OneBegun, one-begun-sound, with-sound, none_is}
use Rattle.orders.proofs.InTurn.{in-turn, accepted-in-turn}
use Rattle.orders.specs.Rewind.{keeps_too_much, held_differs, reached, Cut, opening_differs, rewound, cut_call, rewind_in_turn, rewind_call}
use Rattle.orders.proofs.Lengths.{OnBlock, starts-on, keeps-few}
use Rattle.orders.specs.Begin.{begun, begin_call}
use Rattle.orders.specs.HandBack.{no_block, handed_back, hand_back_call}
use Rattle.orders.specs.End.{handed, last_bytes, end_cut, end_in_turn, end_call}
use Rattle.orders.specs.Abandon.{abandon_call}
use Rattle.orders.specs.OneRewind.{after_blocks, BlocksAccepted, after_steps, StepsAccepted, answered_on, joined}
use Rattle.orders.proofs.HandBacks.{a_block, blocks-on}

module _ (r : Record) (arrays : Arrays r) (ok : sound r ≡ true) (idle : is_begun r ≡ false) where
  abbrev Z : WordSize
  Z = size_of r.w

  abbrev B : ℕ
  B = block_bytes Z

  abbrev fill : ℕ
  fill = held_length r.w r.total

  some : 0 < B
  some = block-some r.w

  is : Sound r
  is = sounds r ok

  chain : Chain Z r.chain
  chain = chain-is r.w r.chain is.word arrays.words is.below

  -- after the bytes h were handed back, in as many blocks as s has
  pub record Handed (h : List ℕ) (s : Split) : Type 0 where
    pub one : OneBegun r.w r.total r.chain s
    pub second : s.second ≡ reached r h
    pub size : length h ≡ s.blocks * B + fill
    pub held : drop (length h - fill) h ≡ held_bytes r
    pub first : (keep : ℕ) → keep ≤ length h → keep < B → take keep (last_bytes (with_split r s)) ≡ take keep h

  -- after a begin with the held bytes
  handed-none : (h : List ℕ) → length h ≡ fill → held_differs r h ≡ false → Handed h (begun r)
  unfolding begun held_differs reached last_bytes with_split held_bytes held_of backwards
  handed-none h size same =
      let short : length h < B = omega (arith, size, mod-lt r.total some) in
      let held : drop (length h - fill) h ≡ held_bytes r = equal-true (drop (length h - fill) h) (held_bytes r) (not-false (equal (drop (length h - fill) h) (held_bytes r)) same) in
      let none : length h - fill ≡ 0 = omega (arith, size) in
      record {
        one =
            record {
              mark = refl;
              up_to = zero-le;
              below = is.below;
              zero = filled_zero longest_block [] B zero-le;
              first = rw (equal-self r.chain) (filled_zero longest_block [] 0 zero-le);
            };
        second = sym (ap (λ (bs : List (List ℕ)). backwards Z bs r.chain) (blocks-short Z some h short));
        size = omega (arith, size, zero-mul B);
        held = held;
        first = λ keep le lt. ap (take keep) (sym held ∙ ap (λ (n : ℕ). drop n h) none);
      }

  -- the second chain is one
  second_is : {h : List ℕ} {s : Split} → Handed h s → Chain Z s.second
  unfolding reached
  second_is {h} had = subst (Chain Z) (sym had.second) (backwards-chain Z (amounts r.w) (blocks_of Z h) r.chain chain)

  -- and after one block more
  handed-more : (h : List ℕ) (s : Split) (b : List ℕ) → Handed h s → length b ≡ B → s.blocks < r.total / B → Handed (b ++ h) (handed_back (with_split r s) b)
  unfolding handed_back with_split held_of reached last_bytes
  handed-more h s b had size left =
      let whole : length b % B ≡ 0 = ap (λ (n : ℕ). n % B) size ∙ mod_self B in
      let after : length (b ++ h) - fill ≡ length b + (length h - fill) = omega (arith, length-append b h, had.size) in
      let some_back : eqb (s.blocks + 1) 0 ≡ false = ne_eqb (s.blocks + 1) 0 (λ e. omega (arith, e)) in
      record {
        one =
            record {
              mark = refl;
              up_to = omega (arith, left);
              below = chain-below r.w (backwards Z (blocks_of Z b) s.second) is.word (backwards-chain Z (amounts r.w) (blocks_of Z b) s.second (second_is had));
              zero = filled_zero longest_block b B (le_of_eq size);
              first = rw some_back;
            };
        second =
            ap (backwards Z (blocks_of Z b)) had.second
            ∙ sym (backwards-append Z (blocks_of Z b) (blocks_of Z h) r.chain)
            ∙ ap (λ (bs : List (List ℕ)). backwards Z bs r.chain) (sym (blocks-split Z some b whole h));
        size = omega (arith, length-append b h, had.size, size, add-mul s.blocks 1 B, one-mul B);
        held = ap (λ (n : ℕ). drop n (b ++ h)) after ∙ drop-append-add b h (length h - fill) ∙ had.held;
        first = λ keep le lt.
            rw some_back (ap (take keep) (take_at b (replicate (longest_block - length b) 0) B size) ∙ sym (take-append-le keep b h (omega (arith, size, lt))));
      }

  -- a record after steps that handed back the bytes h
  pub record After (h : List ℕ) (x : Record) : Type 0 where
    pub split : Split
    pub is : x ≡ with_split r split
    pub handed : Handed h split

  -- one hand-back more
  accepted-block : (h : List ℕ) (s : Split) (b : List ℕ) → Handed h s → (hand_back_call (with_split r s) b).number ≡ 0
      → After (b ++ h) (hand_back_call (with_split r s) b).next
  unfolding hand_back_call with_split refused stepped
  accepted-block h s b had e =
      let x : Record = with_split r s in
      let turn = (accepted-in-turn x (cond (no_block B r.total s.blocks (length b)) (refused 6 x) (stepped x (handed_back x b))) e).2 in
      let p = passed (λ (o : Outcome). o.number) (test (no_block B r.total s.blocks (length b)) (refused 6 x) ∷ []) (stepped x (handed_back x b)) refl (ap (λ (o : Outcome). o.number) (sym turn) ∙ e) in
      let block : (length b ≡ B) × (s.blocks < r.total / B) = a_block B r.total s.blocks (length b) (p.0 0) in
      record { split = handed_back x b; is = ap (λ (o : Outcome). o.next) (turn ∙ p.1); handed = handed-more h s b had block.0 block.1 }

  block-after : (h : List ℕ) (x : Record) (b : List ℕ) → After h x → (hand_back_call x b).number ≡ 0 → After (b ++ h) (hand_back_call x b).next
  block-after h x b had = subst (λ (y : Record). (hand_back_call y b).number ≡ 0 → After (b ++ h) (hand_back_call y b).next) (sym had.is) (accepted-block h had.split b had.handed)

  blocks-after : (bs : List (List ℕ)) (h : List ℕ) (x : Record) → After h x → BlocksAccepted x bs → After (joined h bs) (after_blocks x bs)
  blocks-after [] h x had accepted = had
  blocks-after (b ∷ bs) h x had accepted = blocks-after bs (b ++ h) (hand_back_call x b).next (block-after h x b had accepted.0) accepted.1

  -- the end of it, and one Rewind of the bytes handed back, where the tests before 7 are passed
  module _ (h : List ℕ) (s : Split) (had : Handed h s) (keep : ℕ) where
    abbrev y : Record
    y = with_split r s

    abbrev c : List ℕ
    c = reached r h

    abbrev size : ℕ
    size = length h

    abbrev cut : List ℕ → Cut
    cut t = record { size = size; keep = keep; chain = c; bytes = t }

    same_bytes : keep ≤ size → keep < B → rewound y (cut (last_bytes y)) ≡ rewound r (cut h)
    unfolding rewound with_split
    same_bytes le lt =
        ap (λ (t : List ℕ). record { w = r.w; n = r.n; total = r.total - size + keep; chain = c; held = held_of t; split = not_begun }) (had.first keep le lt)

    pub same-cut : keep ≤ size → keep < B → cut_call y (cut (last_bytes y)) ≡ answered_on y (cut_call r (cut h))
    unfolding cut_call opening_differs with_split answered_on refused
    same-cut le lt = go (opening_differs r (cut h)) (same_bytes le lt)
      where
        accepts : Record → Outcome
        accepts q = record { number = 0; count = size / B; next = q }

        go : (t : Bool) → rewound y (cut (last_bytes y)) ≡ rewound r (cut h)
            → cond t (refused 9 y) (accepts (rewound y (cut (last_bytes y)))) ≡ answered_on y (cond t (refused 9 r) (accepts (rewound r (cut h))))
        go true same = refl
        go false same = ap accepts same

    ended : cond (keeps_too_much B keep size) (refused 7 y) (cut_call y (cut (last_bytes y)))
        ≡ answered_on y (cond (keeps_too_much B keep size) (refused 7 r) (cut_call r (cut h)))
    unfolding answered_on refused
    ended = go (keeps_too_much B keep size) refl
      where
        go : (t : Bool) → keeps_too_much B keep size ≡ t
            → cond t (refused 7 y) (cut_call y (cut (last_bytes y))) ≡ answered_on y (cond t (refused 7 r) (cut_call r (cut h)))
        go true e = refl
        go false e = let few = keeps-few B keep size e in same-cut few.0 few.1

    -- the two calls
    pub end-cut-is : end_cut y keep ≡ cut (last_bytes y)
    unfolding end_cut handed with_split
    end-cut-is = ap₂ (λ (k : ℕ) (t : List ℕ). record { size = k; keep = keep; chain = t; bytes = last_bytes y }) (sym had.size) had.second

    end_is : end_in_turn y keep ≡ cond (keeps_too_much B keep size) (refused 7 y) (cut_call y (cut (last_bytes y)))
    unfolding end_in_turn end_cut with_split
    end_is = ap (λ (q : Cut). cond (keeps_too_much B keep q.size) (refused 7 y) (cut_call y q)) end-cut-is

    rewind-is : rewind_call r keep h ≡ cond (keeps_too_much B keep size) (refused 7 r) (cut_call r (cut h))
    unfolding rewind_call rewind_in_turn held_differs
    rewind-is =
        let on : OnBlock B r.total size = subst (OnBlock B r.total) (sym had.size) (blocks-on B r.total s.blocks had.one.up_to) in
        in-turn r ok _ idle ∙ rw (starts-on B r.total size on, had.held, equal-self (held_bytes r))

-- a begin that is accepted is on a sound record with none begun, and brings the held bytes
pub record Begins (r : Record) (h : List ℕ) : Type 0 where
  pub ok : sound r ≡ true
  pub idle : is_begun r ≡ false
  pub size : length h ≡ held_length r.w r.total
  pub same : held_differs r h ≡ false
  pub next : (begin_call r h).next ≡ with_split r (begun r)

begins : (r : Record) (h : List ℕ) → (begin_call r h).number ≡ 0 → Begins r h
unfolding begin_call refused stepped
begins r h e =
    let fill = held_length r.w r.total in
    let ts = test (not (eqb (length h) fill)) (refused 6 r) ∷ test (held_differs r h) (refused 8 r) ∷ [] in
    let turn = accepted-in-turn r (tested ts (stepped r (begun r))) e in
    let p = passed (λ (o : Outcome). o.number) ts (stepped r (begun r)) refl (ap (λ (o : Outcome). o.number) (sym turn.2) ∙ e) in
    record {
      ok = turn.0;
      idle = turn.1;
      size = eqb-true (length h) fill (not-false (eqb (length h) fill) (p.0 0));
      same = p.0 1;
      next = ap (λ (o : Outcome). o.next) (turn.2 ∙ p.1);
    }

module _ (r : Record) (arrays : Arrays r) (h : List ℕ) (bs : List (List ℕ)) (accepted : StepsAccepted r h bs) where
  abbrev x : Record
  x = after_steps r h bs

  abbrev all : List ℕ
  all = joined h bs

  pub begin-is : Begins r h
  unfolding StepsAccepted
  begin-is = begins r h accepted.0

  after_is : After r arrays begin-is.ok begin-is.idle all x
  unfolding StepsAccepted after_steps
  after_is =
      let b = begin-is in
      blocks-after r arrays b.ok b.idle bs h (begin_call r h).next
      (record { split = begun r; is = b.next; handed = handed-none r arrays b.ok b.idle h b.size b.same })
      accepted.1

  abbrev s : Split
  s = after_is.split

  pub x-sound : sound x ≡ true
  x-sound = ap sound after_is.is ∙ with-sound r s begin-is.ok (one-begun-sound r.w r.total r.chain s after_is.handed.one)

  pub x-begun : is_begun x ≡ true
  unfolding is_begun with_split
  x-begun = ap is_begun after_is.is ∙ eq-eqb s.mark 1 after_is.handed.one.mark

  -- the record is the old one but for how far the rewind is
  pub as_before : with_split x not_begun ≡ r
  unfolding with_split
  as_before =
      ap (λ (y : Record). with_split y not_begun) after_is.is
      ∙ ap (with_split r) (sym (none_is r begin-is.ok begin-is.idle arrays.second_words arrays.back_long))

  -- abandoning restores it
  pub abandoned : ◌≡◌ {A = Outcome} (abandon_call x) (record { number = 0; count = 0; next = r })
  unfolding abandon_call stepped
  abandoned = in-turn x x-sound _ (rw x-begun) ∙ ap (λ (y : Record). record { number = 0; count = 0; next = y }) as_before

  -- the end is that of one Rewind
  pub one-rewind : (keep : ℕ) → end_call x keep ≡ answered_on x (rewind_call r keep all)
  unfolding end_call
  one-rewind keep =
      let b = begin-is in
      let had = after_is.handed in
      subst (λ (q : Record). sound q ≡ true → is_begun q ≡ true → end_call q keep ≡ answered_on q (rewind_call r keep all)) (sym after_is.is)
      (λ sound-q begun-q.
      in-turn (with_split r s) sound-q _ (rw begun-q)
      ∙ end_is r arrays b.ok b.idle all s had keep
      ∙ ended r arrays b.ok b.idle all s had keep
      ∙ ap (answered_on (with_split r s)) (sym (rewind-is r arrays b.ok b.idle all s had keep)))
      x-sound x-begun

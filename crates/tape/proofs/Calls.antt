-- One call on an order of the tape, which is plain or has a split rewind begun, answers as the tape does, and leaves an order of the tape that is left.
-- Assumes nothing.
use mathlib.Core.Path.{◌≡◌, refl, sym, ap, ◌∙◌, subst}
use mathlib.Core.Bool.{Bool, true, false, not, cond}
use mathlib.Core.List.{List, ◌++◌}
use Prim.Native.Nat.{ℕ, ◌+◌, ◌-◌, ◌/◌, ◌≤◌, ◌<◌}
use native.Mathlib.Omega.{arith}
use lib.Dec.{eqb, ltb}
use lib.ListN.{length, take, drop}
use borrow.Author.Tests.{eqb-true, not-false}
use Rattle.lsh.specs.WordSize.{is_word_size, size_of, block_bytes}
use Rattle.lsh.specs.Padding.{rest_of}
use Rattle.answers.specs.First.{first}
use Rattle.limits.specs.Limits.{is_digest_length, limit}
use Rattle.lists.proofs.Equal.{equal-self}
use Rattle.orders.specs.declared.Record.{Record}
use Rattle.orders.specs.declared.Outcome.{Outcome}
use Rattle.orders.specs.Split.{not_begun}
use Rattle.orders.specs.Record.{held_length, sound, is_begun, with_split, record_of, refused, stepped}
use Rattle.orders.specs.Turn.{answered, turn_answer, in_turn}
use Rattle.orders.proofs.Begun.{not-begun-sound, with-sound}
use Rattle.orders.proofs.Strings.{held-record, record-idle}
use Rattle.orders.proofs.InTurn.{in-turn, out-of-turn}
use Rattle.orders.specs.Append.{append_accepted, append_call}
use Rattle.orders.specs.Rewind.{starts_off_block, keeps_too_much, held_differs, rewind_in_turn, rewind_call}
use Rattle.orders.proofs.Lengths.{OnBlock, on-block, keeps-few}
use Rattle.orders.specs.Begin.{begun, begin_call}
use Rattle.orders.specs.HandBack.{no_block, hand_back_call}
use Rattle.orders.specs.End.{handed, end_cut, end_in_turn, end_call}
use Rattle.orders.specs.Abandon.{abandon_call}
use Rattle.orders.proofs.HandBacks.{a_block}
use Rattle.checkpoints.specs.Roll.{is_roll_of, roll_answer}
use Rattle.checkpoints.specs.Checkpoints.{if_accepted}
use Rattle.checkpoints.proofs.InTurn.{roll-in-turn, roll-out-of-turn}
use Rattle.checkpoints.specs.AppendRoll.{append_roll_answer, append_roll_call, appended_roll}
use Rattle.checkpoints.specs.RewindRoll.{rewind_roll_call, cut_roll, rewound_roll}
use Rattle.checkpoints.specs.EndRoll.{end_roll_call, ended_roll}
use Rattle.tape.specs.Sequence.{Given}
use Rattle.tape.specs.Tape.{Lent, NoRoll, WithRoll, by_lent, Tape, plain, unfinished, whole_blocks, too_many_blocks, stays, becomes, tape_append, tape_cut, tape_rewind, tape_begin, tape_hand_back, tape_handed, tape_end, tape_abandon}
use Rattle.tape.specs.TapeRecord.{block_after, tape_split, tape_record}
use Rattle.tape.specs.Calls.{Call, Append, Rewind, Begin, HandBack, End, Abandon, Order, given, order_call, tape_call, HandsBack}
use Rattle.tape.specs.TapeRoll.{TapeRoll, RollShows}
use Rattle.tape.proofs.Simulation.{Follows, choose}
use Rattle.tape.proofs.Records.{WithinLimit, sound-is, append-next, held_same, cut-next}
use Rattle.tape.proofs.Rolls.{full-test, inserted_roll, inserted-shows, cut-shows}
use Rattle.tape.proofs.Unfinished.{sound-y, begun-y, end-cut, block_more, none_yet}

-- an order of the tape: its record is that of the tape, and its roll, if it has one, shows the chains of the tape's bytes
pub record Shows (lent : Lent) (w n : ℕ) (o : Order) (t : Tape) : Type 0 where
  pub kept : o.kept ≡ tape_record w n t
  pub roll : RollShows lent w n t.bytes o.roll

-- a call that takes bytes off an order, without a roll or with it, by what it gives in turn
abbrev cutting : Lent → Record → List ℕ → Bool → Outcome → Given Order
cutting lent x roll out rest =
    by_lent lent (given (in_turn x out rest) roll)
    (given (answered (roll_answer x out roll) x rest) (cut_roll x.w (answered (roll_answer x out roll) x rest) roll))

-- the roll after it, by the outcome
abbrev roll_after : Lent → ℕ → List ℕ → Outcome → List ℕ
roll_after lent w roll o = by_lent lent roll (cut_roll w o roll)

-- what is lent is a roll of the record
abbrev HasRoll : Lent → Record → List ℕ → Type 0
HasRoll NoRoll x roll = Unit {0}
HasRoll (WithRoll size) x roll = is_roll_of x roll ≡ true

module _ (x : Record) (ok : sound x ≡ true) (roll : List ℕ) where
  cutting-out : (lent : Lent) {out : Bool} (rest : Outcome) → out ≡ true → cutting lent x roll out rest ≡ given (refused 17 x) roll
  unfolding cut_roll if_accepted answered refused
  cutting-out NoRoll rest wrong = ap (λ (o : Outcome). given o roll) (out-of-turn x ok rest wrong)
  cutting-out (WithRoll size) {out} rest wrong =
      ap (λ (a : ℕ). given (answered a x rest) (cut_roll x.w (answered a x rest) roll)) (roll-out-of-turn x out roll ok wrong)

  cutting-in : (lent : Lent) {out : Bool} (rest : Outcome) → HasRoll lent x roll → out ≡ false
      → cutting lent x roll out rest ≡ given rest (roll_after lent x.w roll rest)
  unfolding answered
  cutting-in NoRoll rest of turn = ap (λ (o : Outcome). given o roll) (in-turn x ok rest turn)
  cutting-in (WithRoll size) {out} rest of turn =
      let none : roll_answer x out roll ≡ 0 = roll-in-turn x out roll ok turn ∙ rw of in
      ap (λ (a : ℕ). given (answered a x rest) (cut_roll x.w (answered a x rest) roll)) none

  append-out : (lent : Lent) (p : List ℕ) → is_begun x ≡ true
      → by_lent lent (given (append_call x p) roll) (given (append_roll_call x p roll) (appended_roll x p roll)) ≡ given (refused 17 x) roll
  unfolding append_call append_roll_call appended_roll if_accepted append_roll_answer first answered refused
  append-out NoRoll p begun = ap (λ (o : Outcome). given o roll) (out-of-turn x ok _ begun)
  append-out (WithRoll size) p begun = rw (roll-out-of-turn x (is_begun x) roll ok begun)

module _ (w : ℕ) (word : is_word_size w ≡ true) (n : ℕ) (digest : is_digest_length w n ≡ true) where
  abbrev B : ℕ
  B = block_bytes (size_of w)

  -- a call that the tape refuses, and one that it accepts
  refuses : (lent : Lent) (t : Tape) (roll : List ℕ) → RollShows lent w n t.bytes roll → (number : ℕ) {x : Record} {g : Given Order}
      → x ≡ tape_record w n t → g ≡ given (refused number x) roll → Follows (Shows lent w n) g (stays number t)
  unfolding given stays refused
  refuses lent t roll shows number of is =
      subst (λ (g : Given Order). Follows (Shows lent w n) g (stays number t)) (sym is) (record { same = refl; shows = record { kept = of; roll = shows } })

  accepts : (lent : Lent) (count : ℕ) (u : Tape) (after : List ℕ) {o : Outcome} {x : Record} → x ≡ tape_record w n u
      → ◌≡◌ {A = Outcome} o (record { number = 0; count = count; next = x }) → RollShows lent w n u.bytes after
      → Follows (Shows lent w n) (given o after) (becomes count u)
  unfolding given becomes
  accepts lent count u after of is shows =
      subst (λ (o : Outcome). Follows (Shows lent w n) (given o after) (becomes count u)) (sym is) (record { same = refl; shows = record { kept = of; roll = shows } })

  -- on the bytes s
  module _ (s : List ℕ) (short : WithinLimit s) where
    abbrev R : Record
    R = record_of w n s

    ok : sound R ≡ true
    ok = sound-is w word n digest s short

    idle : is_begun R ≡ false
    idle = record-idle w n s

    -- the tape by the mark, and its record
    abbrev tape : Bool → ℕ → Tape
    tape b k = record { bytes = s; begun = b; number = k }

    abbrev Y : ℕ → Record
    Y k = with_split R (tape_split w n s k)

    plain-record : (s : List ℕ) (k : ℕ) → record_of w n s ≡ tape_record w n (record { bytes = s; begun = false; number = k })
    unfolding tape_record with_split record_of
    plain-record s k = refl

    begun-record : (k : ℕ) → Y k ≡ tape_record w n (tape true k)
    unfolding tape_record
    begun-record k = refl

    -- the roll after a cut of the order, by what is lent
    cut-roll : (lent : Lent) (roll : List ℕ) → RollShows lent w n s roll → (count i : ℕ) (x : Record) → x ≡ record_of w n (take i s)
        → RollShows lent w n (take i s) (roll_after lent w roll (record { number = 0; count = count; next = x }))
    unfolding cut_roll if_accepted record_of whole_blocks
    cut-roll NoRoll roll none count i x of = none
    cut-roll (WithRoll size) roll shows count i x of =
        subst (λ (r : Record). TapeRoll w n size.slots (take i s) (cut_roll w (record { number = 0; count = count; next = r }) roll)) (sym of)
        (cut-shows w word n s size roll shows i)

    -- a refused call leaves it
    same-roll : (lent : Lent) (roll : List ℕ) (number : ℕ) (x : Record) → eqb number 0 ≡ false → roll_after lent w roll (refused number x) ≡ roll
    unfolding cut_roll if_accepted refused
    same-roll NoRoll roll number x some = refl
    same-roll (WithRoll size) roll number x some = rw some

    -- a roll of the bytes is one of the record, also with a rewind begun
    roll-of-r : (lent : Lent) (roll : List ℕ) → RollShows lent w n s roll → HasRoll lent R roll
    roll-of-r NoRoll roll none = tt
    roll-of-r (WithRoll size) roll shows = shows.is_of

    roll-of-y : (lent : Lent) (roll : List ℕ) (k : ℕ) → RollShows lent w n s roll → HasRoll lent (Y k) roll
    unfolding is_roll_of with_split
    roll-of-y NoRoll roll k none = tt
    roll-of-y (WithRoll size) roll k shows = shows.is_of

    -- Append where none is begun
    append-plain : (lent : Lent) (roll : List ℕ) → RollShows lent w n s roll → (k : ℕ) (p : List ℕ)
        → Follows (Shows lent w n) (by_lent lent (given (append_call R p) roll) (given (append_roll_call R p roll) (appended_roll R p roll))) (tape_append w lent (tape false k) p)
    unfolding append_call append_roll_call appended_roll if_accepted append_accepted append_roll_answer in_turn turn_answer first answered refused tape_append plain record_of
    append-plain NoRoll roll shows k p =
        rw (ok, idle)
        (choose (λ (o : Outcome). given o roll) (ltb limit (length s + length p)) (λ over. refuses NoRoll (tape false k) roll shows 5 (plain-record s k) refl)
        (λ within. accepts NoRoll _ (plain (s ++ p)) roll (plain-record (s ++ p) 0) (append-next w word n digest s short p) shows))
    append-plain (WithRoll size) roll shows k p =
        let full = too_many_blocks (WithRoll size) (whole_blocks w (s ++ p)) in
        rw (roll-in-turn R (is_begun R) roll ok idle, shows.is_of, full-test w word n s size roll shows p)
        (choose by_number (ltb limit (length s + length p)) (λ over. refuses (WithRoll size) (tape false k) roll shows 5 (plain-record s k) refl)
        (λ within.
        choose by_number full (λ full. refuses (WithRoll size) (tape false k) roll shows 16 (plain-record s k) refl)
        (λ room.
        accepts (WithRoll size) _ (plain (s ++ p)) (inserted_roll w word n s size roll shows p) (plain-record (s ++ p) 0) (append-next w word n digest s short p)
        (inserted-shows w word n s size roll shows p room))))
      where
        by_number : ℕ → Given Order
        by_number a = let o = cond (eqb a 0) (append_accepted R p) (refused a R) in given o (if_accepted o (inserted_roll w word n s size roll shows p) roll)

    -- Rewind where none is begun
    rewind-rest : (lent : Lent) (roll : List ℕ) → RollShows lent w n s roll → (k keep : ℕ) (h : List ℕ)
        → ((tape_rewind w (tape false k) keep (length h)).answer.number ≡ 0 → h ≡ drop (length s - length h) s)
        → Follows (Shows lent w n) (given (rewind_in_turn R keep h) (roll_after lent w roll (rewind_in_turn R keep h))) (tape_rewind w (tape false k) keep (length h))
    unfolding rewind_in_turn tape_rewind tape_cut becomes plain starts_off_block keeps_too_much record_of
    rewind-rest lent roll shows k keep h back =
        choose by-outcome (starts_off_block B (length s) (length h)) (λ off. stop 6 refl)
        (λ off.
        choose by-outcome (keeps_too_much B keep (length h)) (λ much. stop 7 refl)
        (λ much.
        let on : OnBlock B (length s) (length h) = on-block B (length s) (length h) off in
        let few : (keep ≤ length h) × (keep < B) = keeps-few B keep (length h) much in
        let same : h ≡ drop (length s - length h) s = back (rw (off, much)) in
        let i = length s - length h + keep in
        rw (held_same w word n s keep h on few same, cut-next w word n s keep h on few same)
        (accepts lent (length h / B) (plain (take i s)) _ (plain-record (take i s) 0) refl (cut-roll lent roll shows (length h / B) i _ refl))))
      where
        by-outcome : Outcome → Given Order
        by-outcome o = given o (roll_after lent w roll o)

        stop : (number : ℕ) → eqb number 0 ≡ false → Follows (Shows lent w n) (by-outcome (refused number R)) (stays number (tape false k))
        stop number some = refuses lent (tape false k) roll shows number (plain-record s k) (ap (given (refused number R)) (same-roll lent roll number R some))

    -- Begin where none is begun
    held-is : (h : List ℕ) → length h ≡ held_length w (length s) → h ≡ rest_of (size_of w) s → held_differs R h ≡ false
    unfolding held_differs record_of
    held-is h size is =
        let none : length h - held_length w (length s) ≡ 0 = omega (arith, size) in
        rw (none, is, held-record w n s word, equal-self (rest_of (size_of w) s))

    begin-plain : (lent : Lent) (roll : List ℕ) → RollShows lent w n s roll → (k : ℕ) (h : List ℕ)
        → ((tape_begin w (tape false k) (length h)).answer.number ≡ 0 → h ≡ rest_of (size_of w) s)
        → Follows (Shows lent w n) (given (begin_call R h) roll) (tape_begin w (tape false k) (length h))
    unfolding begin_call in_turn turn_answer answered tape_begin becomes unfinished stepped record_of
    begin-plain lent roll shows k h back =
        rw (ok, idle)
        (choose (λ (o : Outcome). given o roll) (not (eqb (length h) (held_length w (length s))))
        (λ off. refuses lent (tape false k) roll shows 6 (plain-record s k) refl)
        (λ on.
        let as_many : length h ≡ held_length w (length s) = eqb-true (length h) (held_length w (length s)) (not-false (eqb (length h) (held_length w (length s))) on) in
        rw (held-is h as_many (back (rw on)))
        (accepts lent 0 (tape true 0) roll (ap (with_split R) (none_yet w word n digest s short) ∙ begun-record 0) refl shows)))

    -- with k blocks handed back
    module _ (k : ℕ) (le : k ≤ whole_blocks w s) where
      ok-y : sound (Y k) ≡ true
      ok-y = sound-y w word n digest s short k le

      has-y : is_begun (Y k) ≡ true
      has-y = begun-y w word n digest s short k le

      hand-back-begun : (lent : Lent) (roll : List ℕ) → RollShows lent w n s roll → (b : List ℕ)
          → ((tape_hand_back w (tape true k) (length b)).answer.number ≡ 0 → b ≡ block_after w s (whole_blocks w s - (k + 1)))
          → Follows (Shows lent w n) (given (hand_back_call (Y k) b) roll) (tape_hand_back w (tape true k) (length b))
      unfolding hand_back_call in_turn turn_answer answered tape_hand_back becomes unfinished whole_blocks no_block stepped with_split record_of tape_split
      hand-back-begun lent roll shows b back =
          rw (ok-y, has-y)
          (choose (λ (o : Outcome). given o roll) (no_block B (length s) k (length b))
          (λ off. refuses lent (tape true k) roll shows 6 (begun-record k) refl)
          (λ on.
          accepts lent 0 (tape true (k + 1)) roll
          (ap (with_split R) (block_more w word n digest s short k le b (back (rw on)) (a_block B (length s) k (length b) on).1) ∙ begun-record (k + 1)) refl shows))

      end_rest : (lent : Lent) (roll : List ℕ) → RollShows lent w n s roll → (keep : ℕ)
          → Follows (Shows lent w n) (given (end_in_turn (Y k) keep) (roll_after lent w roll (end_in_turn (Y k) keep))) (tape_end w (tape true k) keep)
      unfolding end_in_turn end_cut handed tape_end tape_handed tape_cut becomes plain keeps_too_much with_split record_of tape_split
      end_rest lent roll shows keep =
          let size = tape_handed w (tape true k) in
          let i = length s - size + keep in
          choose by-outcome (keeps_too_much B keep size)
          (λ much. refuses lent (tape true k) roll shows 7 (begun-record k) (ap (given (refused 7 (Y k))) (same-roll lent roll 7 (Y k) refl)))
          (λ few.
          rw (end-cut w word n digest s short k le keep few)
          (accepts lent (size / B) (plain (take i s)) _ (plain-record (take i s) 0) refl (cut-roll lent roll shows (size / B) i _ refl)))
        where
          by-outcome : Outcome → Given Order
          by-outcome o = given o (roll_after lent w roll o)

      abandon-begun : (lent : Lent) (roll : List ℕ) → RollShows lent w n s roll
          → Follows (Shows lent w n) (given (abandon_call (Y k)) roll) (tape_abandon (tape true k))
      unfolding abandon_call in_turn turn_answer answered tape_abandon becomes plain stepped with_split record_of
      abandon-begun lent roll shows = rw (ok-y, has-y) (accepts lent 0 (plain s) roll (plain-record s 0) refl shows)

    -- each call, by the mark
    module _ (lent : Lent) (roll : List ℕ) (shows : RollShows lent w n s roll) (k : ℕ) where
      on-plain : (c : Call) → HandsBack w lent (tape false k) c
          → Follows (Shows lent w n) (order_call lent (record { kept = R; roll = roll }) c) (tape_call w lent (tape false k) c)
      unfolding tape_hand_back tape_end tape_abandon record_of rewind_call rewind_roll_call rewound_roll hand_back_call end_call end_roll_call ended_roll abandon_call
      on-plain (Append piece) back = append-plain lent roll shows k piece.list
      on-plain (Rewind keep h) back =
          subst (λ (g : Given Order). Follows (Shows lent w n) g (tape_rewind w (tape false k) keep (length h.list)))
          (sym (cutting-in R ok roll lent (rewind_in_turn R keep h.list) (roll-of-r lent roll shows) idle))
          (rewind-rest lent roll shows k keep h.list back)
      on-plain (Begin h) back = begin-plain lent roll shows k h.list back
      on-plain (HandBack b) back =
          refuses lent (tape false k) roll shows 17 (plain-record s k) (ap (λ (o : Outcome). given o roll) (out-of-turn R ok _ (rw idle)))
      on-plain (End keep) back = refuses lent (tape false k) roll shows 17 (plain-record s k) (cutting-out R ok roll lent (end_in_turn R keep) (rw idle))
      on-plain Abandon back =
          refuses lent (tape false k) roll shows 17 (plain-record s k) (ap (λ (o : Outcome). given o roll) (out-of-turn R ok _ (rw idle)))

      on-begun : k ≤ whole_blocks w s → (c : Call) → HandsBack w lent (tape true k) c
          → Follows (Shows lent w n) (order_call lent (record { kept = Y k; roll = roll }) c) (tape_call w lent (tape true k) c)
      unfolding tape_append tape_rewind tape_begin with_split record_of rewind_call rewind_roll_call rewound_roll begin_call end_call end_roll_call ended_roll
      on-begun le (Append piece) back =
          refuses lent (tape true k) roll shows 17 (begun-record k) (append-out (Y k) (ok-y k le) roll lent piece.list (has-y k le))
      on-begun le (Rewind keep h) back =
          refuses lent (tape true k) roll shows 17 (begun-record k) (cutting-out (Y k) (ok-y k le) roll lent (rewind_in_turn (Y k) keep h.list) (has-y k le))
      on-begun le (Begin h) back =
          refuses lent (tape true k) roll shows 17 (begun-record k) (ap (λ (o : Outcome). given o roll) (out-of-turn (Y k) (ok-y k le) _ (has-y k le)))
      on-begun le (HandBack b) back = hand-back-begun k le lent roll shows b.list back
      on-begun le (End keep) back =
          subst (λ (g : Given Order). Follows (Shows lent w n) g (tape_end w (tape true k) keep))
          (sym (cutting-in (Y k) (ok-y k le) roll lent (end_in_turn (Y k) keep) (roll-of-y lent roll k shows) (rw (has-y k le))))
          (end_rest k le lent roll shows keep)
      on-begun le Abandon back = abandon-begun k le lent roll shows

  pub on-tape : (lent : Lent) (s : List ℕ) → WithinLimit s → (roll : List ℕ) → RollShows lent w n s roll → (b : Bool) (k : ℕ) → k ≤ whole_blocks w s → (c : Call)
      → HandsBack w lent (record { bytes = s; begun = b; number = k }) c
      → Follows (Shows lent w n) (order_call lent (record { kept = tape_record w n (record { bytes = s; begun = b; number = k }); roll = roll }) c)
      (tape_call w lent (record { bytes = s; begun = b; number = k }) c)
  on-tape lent s short roll shows false k le c back =
      subst (λ (r : Record). Follows (Shows lent w n) (order_call lent (record { kept = r; roll = roll }) c) (tape_call w lent (tape s short false k) c))
      (plain-record s short s k) (on-plain s short lent roll shows k c back)
  on-tape lent s short roll shows true k le c back =
      subst (λ (r : Record). Follows (Shows lent w n) (order_call lent (record { kept = r; roll = roll }) c) (tape_call w lent (tape s short true k) c))
      (begun-record s short k) (on-begun s short lent roll shows k le c back)

  -- the record of a tape is sound
  pub tape-sound : (s : List ℕ) → WithinLimit s → (b : Bool) (k : ℕ) → k ≤ whole_blocks w s → sound (tape_record w n (record { bytes = s; begun = b; number = k })) ≡ true
  unfolding tape_record
  tape-sound s short false k le = with-sound (record_of w n s) not_begun (sound-is w word n digest s short) (not-begun-sound _ _ _)
  tape-sound s short true k le = sound-y w word n digest s short k le

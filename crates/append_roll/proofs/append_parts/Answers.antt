use mathlib.Core.Path.{◌≡◌, refl, sym, ap, ◌∙◌, subst}
use mathlib.Core.Bool.{true}
use mathlib.Core.List.{List, []}
use Prim.Native.Nat.{ℕ, ◌+◌, ◌-◌, ◌*◌, ◌≤◌, ◌<◌}
use native.Mathlib.Omega.{arith}
use lib.ListN.{length, take, drop, length-drop}
use lib.Seq.{length-take-le}
use borrow.Author.Rules.{rules}
use Rattle.lsh.proofs.Figures.{block-some}
use Rattle.runs.proofs.Rest.{from_place}
use Rattle.orders.specs.declared.Record.{Record}
use Rattle.orders.specs.Record.{held_of, sound}
use Rattle.orders.proofs.Sound.{Sound, sounds}
use Rattle.orders.specs.Append.{appended}
use Rattle.checkpoints.specs.Roll.{checkpoints}
use Rattle.checkpoints.proofs.Spacing.{step}
use Rattle.checkpoints.proofs.AppendAnswers.{Accepted, accepted, goal-of, accepted-call}
use Rattle.append_roll.proofs.Parts.{Entry, inserted-at, due-after, so-far-sound, none-reached, first-room, first-parted, first_rest, chain-ok, count-few, next-room, parted-more, parted-roll, parted-end, order-there}
use Rattle.append_roll.proofs.append_parts.Goals as goal
use Rattle.append_roll.proofs.append_parts.Goals.{After-loop-at, At-loop-at, Else-piece-first, In-loop-at, Start}

-- at the entry
module _ (z : Start) where
  abbrev R : Record
  R = z.args.r

  abbrev P : List ℕ
  P = z.args.piece.now

  abbrev S : List ℕ
  S = z.args.roll.now

  entry : Entry R P S
  entry = record { pass = accepted R (length P) S z.requires.0; words = search rules; long = search rules }

  pass : Accepted R (length P) S
  pass = entry.pass

  is : Sound R
  is = sounds R pass.sound_record

-- the first checkpoint is reached
module _ (c : Else-piece-first) where
  abbrev begun : Start
  begun = (goal.at.Else-piece-first c).Start

  abbrev first : ℕ
  first = c.to_checkpoint-first.result

  next : (R begun).total + first ≡ (checkpoints (R begun).w (R begun).total + 1) * step (R begun).w
  next = c.to_checkpoint-first.ensures

  le : first ≤ length (P begun)
  le = c.if-piece-first.false

  first-length : length (take first (P begun)) ≡ first
  first-length = length-take-le first (P begun) le

pub first_part-p-requires : goal.first_part-p-requires
first_part-p-requires c = let e = (goal.at.first_part-p-requires c).Else-piece-first in
    let z = begun e in (
      (pass z).sound_record,
      omega (arith, (pass z).within, first-length e, le e),
      z.requires.1,
      first-room (R z) (P z) (entry z) (first e) (next e) (le e),
    )

-- at the head of the loop
module _ (l : At-loop-at) where
  abbrev entered : Else-piece-first
  entered = (goal.at.At-loop-at l).Else-piece-first

  abbrev from_start : Start
  from_start = begun entered

  abbrev Q : ℕ
  Q = l.between_checkpoints-step.result

  step_is : Q ≡ step (R from_start).w
  step_is = l.between_checkpoints-step.ensures

  inserted-first : l.first_part-p.new.roll ≡ inserted-at (R from_start) (P from_start) (first entered) (S from_start)
  inserted-first = l.first_part-p.ensures.2 _

  rest-first : (length l.first_part-p.new.roll ≡ length (S from_start))
      × (due-after (R from_start) (P from_start) (first entered) l.first_part-p.new.roll ≡ goal-of (R from_start) (P from_start) (S from_start))
  rest-first =
      first_rest (R from_start) (P from_start) (entry from_start) (first entered) (next entered) (le entered) inserted-first

-- a part to the next checkpoint
module _ (c : In-loop-at) where
  abbrev A : ℕ
  A = c.loop-at.at

  abbrev start_of : Start
  start_of = from_start (goal.at.In-loop-at c).At-loop-at

  abbrev given : List ℕ
  given = take (A + Q (goal.at.In-loop-at c).At-loop-at - A) (drop A (P start_of))

  reaches : A + Q (goal.at.In-loop-at c).At-loop-at ≤ length (P start_of)
  reaches = omega (arith, c.loop-at.invariant.stage.up_to)

  reaches_step : A + step (R start_of).w ≤ length (P start_of)
  reaches_step = rw (← (step_is (goal.at.In-loop-at c).At-loop-at)) reaches

  is-part : given ≡ take (step (R start_of).w) (drop A (P start_of))
  is-part =
      let e : A + Q (goal.at.In-loop-at c).At-loop-at - A ≡ step (R start_of).w = omega (arith, step_is (goal.at.In-loop-at c).At-loop-at) in
      ap (λ (n : ℕ). take n (drop A (P start_of))) e

  given-length : length given ≡ step (R start_of).w
  given-length =
      ap length is-part ∙ length-take-le (step (R start_of).w) (drop A (P start_of)) (omega (arith, reaches_step, length-drop A (P start_of)))

pub next_part-p-requires : goal.next_part-p-requires
next_part-p-requires c = let i = (goal.at.next_part-p-requires c).In-loop-at in
    let z = start_of i in
    let p = i.loop-at.invariant in (
      (is z).word,
      chain-ok (R z) (P z) (entry z) p,
      omega (
        arith,
        count-few (R z) (P z) (entry z) p,
        given-length i,
        reaches_step i,
        (pass z).within,
      ),
      p.traversal,
      next-room (R z) (P z) (entry z) p (reaches_step i),
    )

pub loop-at-preserved : goal.loop-at-preserved
loop-at-preserved c = let i = (goal.at.loop-at-preserved c).In-loop-at in
    let z = start_of i in
    let e = c.next_part-p.ensures in
    parted-more (R z) (P z) (entry z) i.loop-at.invariant (reaches_step i) (given i) (is-part i)
    (ap (λ (q : ℕ). A i + q) (step_is (goal.at.loop-at-preserved c).At-loop-at)) e.0 e.1 e.2 e.3

-- the rest
module _ (c : After-loop-at) where
  abbrev Y : Start
  Y = from_start (goal.at.After-loop-at c).At-loop-at

  abbrev E : ℕ
  E = c.loop-at.at

  rest-is : take (length (P Y) - E) (drop E (P Y)) ≡ drop E (P Y)
  rest-is = from_place (P Y) E

  there : (order : Record)
      → order ≡ record { w = (R Y).w; n = (R Y).n; total = (R Y).total + E; chain = c.loop-at.p.chain; held = held_of []; split = (R Y).split }
      → order ≡ appended (R Y) (take E (P Y))
  there order made =
      let p = c.loop-at.invariant in
      made ∙ order-there (R Y) (P Y) (entry Y) E p.stage.up_to _ p.place c.loop-at.p.chain p.reached

pub last_part-requires : goal.last_part-requires
last_part-requires c = let l = (goal.at.last_part-requires c).After-loop-at in
    let z = Y l in
    let p = l.loop-at.invariant in (
      omega (arith, ap length (rest-is l), length-drop (E l) (P z), p.stage.up_to, (pass z).within),
      omega (
        arith,
        count-few (R z) (P z) (entry z) p,
        p.stage.up_to,
        (pass z).within,
      ),
      λ order made.
          subst (λ (o : Record). sound o ≡ true) (sym (there l order made))
          (so-far-sound (R z) (P z) (entry z) (E l) p.stage.up_to),
    )

pub returns : goal.returns
returns c = let l = (goal.at.returns c).After-loop-at in
    let z = Y l in
    let p = l.loop-at.invariant in
    let made : Record = record { w = (R z).w; n = (R z).n; total = (R z).total + E l; chain = l.loop-at.p.chain; held = held_of []; split = (R z).split } in
    let less : length (P z) < E l + step (R z).w = omega (arith, p.stage.up_to, step_is (goal.at.returns c).At-loop-at) in (
      c.last_part.ensures made refl
          ∙ parted-end (R z) (P z) (entry z) p _ (rest-is l) (there l made refl),
      parted-roll (R z) (P z) (entry z) p less
          ∙ (rest-first (goal.at.returns c).At-loop-at).1 ∙ (accepted-call (R z) (P z) (S z) (sym z.requires.0) refl).1,
    )

pub to_checkpoint-first-requires : goal.to_checkpoint-first-requires
to_checkpoint-first-requires c = (is (goal.at.to_checkpoint-first-requires c).Start).few

pub accepted-requires : goal.accepted-requires
accepted-requires c = let z = (goal.at.accepted-requires c).Start in ((pass z).sound_record, (pass z).within)

pub returns-then-piece-first : goal.returns-then-piece-first
returns-then-piece-first c = let z = (goal.at.returns-then-piece-first c).Start in (
  c.accepted.ensures,
  none-reached (R z) (P z) (entry z) _ c.to_checkpoint-first.ensures c.if-piece-first.true
      ∙ (accepted-call (R z) (P z) (S z) (sym z.requires.0) refl).1,
)

pub between_checkpoints-step-requires : goal.between_checkpoints-step-requires
between_checkpoints-step-requires c = tt

pub slice_bounds-first_part-end : goal.slice_bounds-first_part-end
slice_bounds-first_part-end c = sym (first-length (goal.at.slice_bounds-first_part-end c).Else-piece-first)

pub loop-at-init : goal.loop-at-init
loop-at-init c = let e = (goal.at.loop-at-init c).Else-piece-first in
    let z = begun e in
    let f = c.first_part-p.ensures in
    first-parted (R z) (P z) (entry z) (first e) (next e) (le e) f.0 f.1 (f.2 _) f.3

pub overflow_sub-piece : goal.overflow_sub-piece
overflow_sub-piece c = c.loop-at.invariant.stage.up_to

pub overflow_add-end : goal.overflow_add-end
overflow_add-end c = record { fits = omega (arith, reaches c) }

pub slice_bounds-next_part-end : goal.slice_bounds-next_part-end
slice_bounds-next_part-end c = reaches c

pub loop-at-smaller : goal.loop-at-smaller
loop-at-smaller c = let i = (goal.at.loop-at-smaller c).In-loop-at in
    omega (arith, reaches i, step_is (goal.at.loop-at-smaller c).At-loop-at, block-some (R (start_of i)).w)

pub slice_bounds-last_part-count : goal.slice_bounds-last_part-count
slice_bounds-last_part-count c = c.loop-at.invariant.stage.up_to

pub slice_bounds-last_part-start : goal.slice_bounds-last_part-start
slice_bounds-last_part-start c = c.loop-at.invariant.stage.up_to

pub shape_of-roll : goal.shape_of-roll
shape_of-roll c = c.loop-at.invariant.stage.same ∙ (rest-first (goal.at.shape_of-roll c).At-loop-at).0

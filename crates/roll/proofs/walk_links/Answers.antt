use mathlib.Core.Path.{refl}
use Prim.Native.Nat.{◌≤◌, ◌<◌, zero-le}
use native.Mathlib.Omega.{arith}
use lib.ListN.{length}
use Rattle.lsh.specs.WordSize.{size_of}
use Rattle.checkpoints.specs.Slots.{slot_count}
use Rattle.checkpoints.proofs.Form.{Sized, sized}
use Rattle.roll.proofs.Walked.{walked_none, walked-beyond, walked-twice, walked-few, walked_more, walked_all}
use Rattle.roll.proofs.walk_links.Goals as goal
use Rattle.roll.proofs.walk_links.Goals.{At-loop-i, Else-marks-i-ne0, Start}

module _ (z : Start) where
  sizes : Sized (size_of z.args.w) z.args.roll.now
  sizes = sized (size_of z.args.w) z.args.roll.now z.requires.0

-- a slot that was not visited before
module _ (c : Else-marks-i-ne0) where
  abbrev at_head : At-loop-i
  at_head = (goal.at.Else-marks-i-ne0 c).At-loop-i

  abbrev at-start : Start
  at-start = (goal.at.Else-marks-i-ne0 c).Start

  within : at_head.loop-i.i ≤ slot_count (size_of at-start.args.w) (length at-start.args.roll.now)
  within = omega (arith, at-start.requires.1)

  few : at_head.loop-i.count < slot_count (size_of at-start.args.w) (length at-start.args.roll.now)
  few = walked-few _ _ at-start.requires.0 at_head.loop-i.invariant c.loop-i-test.true within c.if-marks-i-ne0.false

pub next_index-i-requires : goal.next_index-i-requires
next_index-i-requires c = (c.requires.0, zero-le)

pub loop-i-init : goal.loop-i-init
loop-i-init c = walked_none _ _ refl c.next_index-i.ensures

pub returns-then-slots-i : goal.returns-then-slots-i
returns-then-slots-i c = walked-beyond _ _ c.requires.0 c.loop-i.invariant c.loop-i-test.true (omega (arith, c.requires.1))

pub bounds-marks-i : goal.bounds-marks-i
bounds-marks-i c = let z = (goal.at.bounds-marks-i c).Start in
    omega (arith, z.requires.1, (sizes z).most)

pub returns-then-marks-i-ne0 : goal.returns-then-marks-i-ne0
returns-then-marks-i-ne0 c = walked-twice _ _ c.requires.0 c.loop-i.invariant c.loop-i-test.true (omega (arith, c.requires.1)) c.if-marks-i-ne0.true

pub bounds-marks-i-in-loop-i : goal.bounds-marks-i-in-loop-i
bounds-marks-i-in-loop-i c = omega (arith, within c, (sizes (at-start c)).most)

pub overflow_add-count : goal.overflow_add-count
overflow_add-count c = omega (arith, few c, (sizes (at-start c)).most)

pub next_index-i-requires-in-loop-i : goal.next_index-i-requires-in-loop-i
next_index-i-requires-in-loop-i c = ((at-start c).requires.0, within c)

pub loop-i-smaller : goal.loop-i-smaller
loop-i-smaller c = omega (arith, few (goal.at.loop-i-smaller c).Else-marks-i-ne0, (at-start (goal.at.loop-i-smaller c).Else-marks-i-ne0).requires.1)

pub loop-i-preserved : goal.loop-i-preserved
loop-i-preserved c = let e = (goal.at.loop-i-preserved c).Else-marks-i-ne0 in
    walked_more _ _ (at-start e).requires.0 (at_head e).loop-i.invariant e.loop-i-test.true (within e) e.if-marks-i-ne0.false _ c.next_index-i-in-loop-i.ensures

pub returns : goal.returns
returns c = walked_all _ _ c.requires.0 c.loop-i.invariant c.loop-i-test.false _ c.requires.1

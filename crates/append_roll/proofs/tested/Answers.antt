-- `append_roll::tested` meets its contract, test by test. Assumes nothing.
use mathlib.Core.Path.{◌≡◌, refl, sym, ap, ap₂, ◌∙◌}
use mathlib.Core.Bool.{Bool}
use Prim.Native.Nat.{ℕ, ◌+◌, ◌≤◌, ◌<◌}
use native.Mathlib.Omega.{arith}
use lib.Dec.{ltb}
use borrow.Author.Tests.{lt-ltb, le-ltb}
use Rattle.std.proofs.lemmas.Result.{err_from_is_err_and}
use Rattle.answers.proofs.First.{refused-first, passed_first}
use Rattle.answers.proofs.Numbers.{some_number}
use Rattle.limits.specs.Limits.{limit}
use Rattle.orders.specs.Record.{is_begun}
use Rattle.orders.proofs.Sound.{Sound, sounds}
use Rattle.checkpoints.specs.Roll.{checkpoints, roll_answer}
use Rattle.checkpoints.proofs.InTurn.{roll-passed}
use Rattle.roll.specs.declared.Traversal.{Traversal}
use Rattle.roll.proofs.Walked.{known-roll}
use Rattle.checkpoints.specs.AppendRoll.{is_full, append_roll_answer}
use Rattle.checkpoints.proofs.AppendAnswers.{full_is}
use Rattle.append_roll.proofs.tested.Goals as goal
use Rattle.append_roll.proofs.tested.Goals.{In_ok-known}

-- the first tests are passed
module _ (c : In_ok-known) where
  passed : 0 ≡ roll_answer c.args.r (is_begun c.args.r) c.args.roll.now
  passed = c.in_ok-known.ensures.0 ∙ ap (λ (b : Bool). roll_answer c.args.r b c.args.roll.now) c.is_begun.ensures

  is-sound : Sound c.args.r
  is-sound = sounds c.args.r c.in_ok-known.ensures.1.0

  -- the test of the slots, by the number k of the checkpoints of the order with the piece
  full-test : {k : ℕ} → k ≡ checkpoints c.args.r.w (c.args.r.total + c.args.size) → is_full c.args.r c.args.size c.args.roll.now ≡ ltb c.in_ok-known.known.slots k
  full-test many =
      let r = c.args.r in
      let of = (roll-passed r (is_begun r) c.args.roll.now (sym passed)).2 in
      full_is r _ c.args.roll.now of ∙ sym (ap₂ ltb (ap (λ (y : Traversal). y.slots) (known-roll _ _ c.in_ok-known.ensures.1.2).traversal) many)

pub returns-in_err-known : goal.returns-in_err-known
unfolding append_roll_answer limit
returns-in_err-known c = let p = err_from_is_err_and c.from_residual.result c.from_residual.ensures.1 in
    let is = c.in_err-known.ensures.0 ∙ ap (λ (b : Bool). roll_answer c.args.r b c.args.roll.now) c.is_begun.ensures in
    rw (p.1, p.2) (refused-first _ _ is (some_number c.in_err-known.field-0.0), tt)

pub overflow_sub-r : goal.overflow_sub-r
unfolding limit
overflow_sub-r c = (is-sound (goal.at.overflow_sub-r c).In_ok-known).few

pub returns-then-r-size : goal.returns-then-r-size
unfolding append_roll_answer limit
returns-then-r-size c = let e = (goal.at.returns-then-r-size c).In_ok-known in
    let over : limit < c.args.r.total + c.args.size = omega (arith, (is-sound e).few, c.if-r-size.true) in
    (passed_first _ _ (passed e) refl (sym (rw (lt-ltb _ _ over))), tt)

pub returns-then-known-checkpoints : goal.returns-then-known-checkpoints
unfolding append_roll_answer limit
returns-then-known-checkpoints c = let e = (goal.at.returns-then-known-checkpoints c).In_ok-known in
    let within : c.args.r.total + c.args.size ≤ limit = omega (arith, (is-sound e).few, c.if-r-size.false) in
    (passed_first _ _ (passed e) refl (sym (rw (le-ltb _ _ within, full-test e c.checkpoints.ensures, lt-ltb _ _ c.if-known-checkpoints.true))), tt)

pub returns : goal.returns
unfolding append_roll_answer limit
returns c = let e = (goal.at.returns c).In_ok-known in
    let within : c.args.r.total + c.args.size ≤ limit = omega (arith, (is-sound e).few, c.if-r-size.false) in
    (passed_first _ _ (passed e) refl (sym (rw (le-ltb _ _ within, full-test e c.checkpoints.ensures, le-ltb _ _ c.if-known-checkpoints.false))), e.in_ok-known.ensures.1.2)

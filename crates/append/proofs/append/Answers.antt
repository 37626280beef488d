use mathlib.Core.Path.{◌≡◌, refl, sym, ◌∙◌}
use mathlib.Core.Bool.{true, false}
use Prim.Native.Nat.{◌+◌, ◌≤◌}
use native.Mathlib.Omega.{arith}
use lib.ListN.{length}
use borrow.Author.Tests.{le-ltb}
use Rattle.limits.specs.Limits.{limit}
use Rattle.orders.specs.Record.{sound, is_begun}
use Rattle.orders.proofs.Sound.{sounds}
use Rattle.orders.proofs.InTurn.{turn-passed, in-turn}
use Rattle.orders.specs.Append.{append_call}
use Rattle.append.proofs.append.Goals as goal
use Rattle.append.proofs.append.Goals.{In_ok-turn, Else-r-piece}

-- the call is in turn
turn_is : (c : In_ok-turn) → (sound c.args.r ≡ true) × (is_begun c.args.r ≡ false)
turn_is c = turn-passed _ c.is_begun.ensures c.in_ok-turn.ensures refl

-- the piece does not pass the limit
within : (c : Else-r-piece) → c.args.r.total + length c.args.piece.now ≤ limit
unfolding limit
within c = omega (arith, (sounds _ (turn_is (goal.at.Else-r-piece c).In_ok-turn).0).few, c.if-r-piece.false)

pub overflow_sub-r : goal.overflow_sub-r
unfolding limit
overflow_sub-r c = (sounds _ (turn_is (goal.at.overflow_sub-r c).In_ok-turn).0).few

pub accepted-requires : goal.accepted-requires
accepted-requires c = ((turn_is (goal.at.accepted-requires c).In_ok-turn).0, within (goal.at.accepted-requires c).Else-r-piece)

pub returns : goal.returns
unfolding append_call
returns c = let turn = turn_is (goal.at.returns c).In_ok-turn in
    c.accepted.ensures ∙ sym (in-turn _ turn.0 _ turn.1 ∙ rw (le-ltb _ _ (within (goal.at.returns c).Else-r-piece)))

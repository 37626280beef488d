-- After a begin and hand-backs that are accepted the end is that of one Rewind, without a roll and with it.
-- Assumes nothing.
use mathlib.Core.Path.{◌≡◌, refl, sym, ap, ◌∙◌}
use mathlib.Core.Bool.{Bool, true, false, not, cond}
use mathlib.Core.List.{List}
use Prim.Native.Nat.{ℕ}
use lib.Dec.{eqb}
use Rattle.orders.specs.declared.Record.{Record}
use Rattle.orders.specs.declared.Outcome.{Outcome}
use Rattle.orders.specs.Record.{is_begun, with_split, refused}
use Rattle.orders.specs.Turn.{answered}
use Rattle.orders.specs.Arrays.{Arrays}
use Rattle.orders.proofs.InTurn.{in-turn}
use Rattle.checkpoints.specs.Roll.{is_roll_of}
use Rattle.checkpoints.specs.Checkpoints.{if_accepted}
use Rattle.checkpoints.proofs.InTurn.{roll-in-turn}
use Rattle.orders.specs.Rewind.{rewind_in_turn, rewind_call}
use Rattle.orders.specs.End.{end_in_turn, end_call}
use Rattle.orders.specs.OneRewind.{after_steps, StepsAccepted, answered_on, joined}
use Rattle.orders.proofs.OneRewind.{begin-is, x-sound, x-begun, as_before, one-rewind}
use Rattle.checkpoints.specs.RewindRoll.{rewind_roll_call, cut_roll, rewound_roll}
use Rattle.checkpoints.specs.EndRoll.{end_roll_call, ended_roll}
use Rattle.tape.specs.AsOneRewind.{AsOneRewind}

-- a roll is cut by the number and the new total alone
cut-answered : (w : ℕ) (x : Record) (o : Outcome) (roll : List ℕ) → cut_roll w (answered_on x o) roll ≡ cut_roll w o roll
unfolding cut_roll if_accepted answered_on refused
cut-answered w x o roll = go (eqb o.number 0) refl
  where
    go : (t : Bool) → eqb o.number 0 ≡ t → cut_roll w (cond t o (refused o.number x)) roll ≡ cut_roll w o roll
    go true e = refl
    go false e = rw e

module _ (r : Record) (arrays : Arrays r) (h : List ℕ) (bs : List (List ℕ)) (accepted : StepsAccepted r h bs) (keep : ℕ) where
  abbrev x : Record
  x = after_steps r h bs

  abbrev all : List ℕ
  all = joined h bs

  -- the same rolls are well formed
  same-roll : (roll : List ℕ) → is_roll_of x roll ≡ is_roll_of r roll
  unfolding with_split is_roll_of
  same-roll roll = ap (λ (q : Record). is_roll_of q roll) (as_before r arrays h bs accepted)

  -- in turn the end is the rest of one Rewind
  rests : end_in_turn x keep ≡ answered_on x (rewind_in_turn r keep all)
  unfolding end_call rewind_call
  rests =
      let b = begin-is r arrays h bs accepted in
      sym (in-turn x (x-sound r arrays h bs accepted) _ (rw (x-begun r arrays h bs accepted)))
      ∙ one-rewind r arrays h bs accepted keep
      ∙ ap (answered_on x) (in-turn r b.ok _ b.idle)

  with-roll : (roll : List ℕ) → end_roll_call x keep roll ≡ answered_on x (rewind_roll_call r keep all roll)
  unfolding end_roll_call rewind_roll_call answered answered_on refused
  with-roll roll =
      let b = begin-is r arrays h bs accepted in
      rw (
        roll-in-turn x (not (is_begun x)) roll (x-sound r arrays h bs accepted) (rw (x-begun r arrays h bs accepted)),
        same-roll roll,
        roll-in-turn r (is_begun r) roll b.ok b.idle,
      ) (go (is_roll_of r roll))
    where
      go : (t : Bool) → answered (cond (not t) 15 0) x (end_in_turn x keep) ≡ answered_on x (answered (cond (not t) 15 0) r (rewind_in_turn r keep all))
      go true = rests
      go false = refl

  pub as-one-rewind : AsOneRewind r h bs keep
  unfolding ended_roll rewound_roll with_split
  as-one-rewind =
      record {
        alone = one-rewind r arrays h bs accepted keep;
        with_roll = with-roll;
        roll_after = λ roll.
            ap (λ (o : Outcome). cut_roll x.w o roll) (with-roll roll)
            ∙ cut-answered x.w x (rewind_roll_call r keep all roll) roll
            ∙ ap (λ (q : Record). cut_roll q.w (rewind_roll_call r keep all roll) roll) (as_before r arrays h bs accepted);
      }

-- What the first tests of a call with a roll say of it, and what they answer in turn and out of turn; and the roll after a call, by its answer.
-- Assumes nothing.
use mathlib.Core.Path.{◌≡◌, refl, ap, ◌∙◌}
use mathlib.Core.Bool.{Bool, true, false, not, cond}
use mathlib.Core.List.{List, [], ◌∷◌}
use Prim.Native.Nat.{ℕ}
use borrow.Author.Tests.{not-false, eq-eqb, ne_eqb}
use Rattle.answers.specs.First.{first}
use Rattle.answers.proofs.Tests.{test, passed}
use Rattle.answers.proofs.First.{both-passed}
use Rattle.orders.specs.declared.Record.{Record}
use Rattle.orders.specs.declared.Outcome.{Outcome}
use Rattle.orders.specs.Record.{sound, refused}
use Rattle.orders.specs.Turn.{turn_answer}
use Rattle.orders.proofs.InTurn.{turn-passed}
use Rattle.checkpoints.specs.Roll.{is_roll_of, roll_answer}
use Rattle.checkpoints.specs.Checkpoints.{if_accepted}

module _ (r : Record) (out : Bool) (s : List ℕ) where
  pub roll-passed : roll_answer r out s ≡ 0 → (sound r ≡ true) × (out ≡ false) × (is_roll_of r s ≡ true)
  unfolding roll_answer
  roll-passed is =
      let both = both-passed (turn_answer r out) (cond (not (is_roll_of r s)) 15 0) is in
      let turn = turn-passed r refl refl both.0 in
      (turn.0, turn.1, not-false (is_roll_of r s) ((passed (λ (k : ℕ). k) (test (not (is_roll_of r s)) 15 ∷ []) 0 refl both.1).0 0))

  module _ (ok : sound r ≡ true) where
    pub roll-in-turn : out ≡ false → roll_answer r out s ≡ cond (not (is_roll_of r s)) 15 0
    unfolding roll_answer turn_answer first
    roll-in-turn turn = rw (ok, turn)

    pub roll-out-of-turn : out ≡ true → roll_answer r out s ≡ 17
    unfolding roll_answer turn_answer first
    roll-out-of-turn wrong = rw (ok, wrong)

-- a call by its first tests, where the code works the answer a out from the test b
module _ (r : Record) {out : Bool} (s : List ℕ) (rest : Outcome) {a : ℕ} {b : Bool} (which : b ≡ out) (is : a ≡ roll_answer r b s) where
  same_turn : a ≡ roll_answer r out s
  same_turn = is ∙ ap (λ (t : Bool). roll_answer r t s) which

module _ (o : Outcome) (changed roll : List ℕ) where
  pub roll-changed : o.number ≡ 0 → if_accepted o changed roll ≡ changed
  unfolding if_accepted
  roll-changed accepted = rw (eq-eqb o.number 0 accepted)

  pub roll-stays : (o.number ≡ 0 → ⊥) → if_accepted o changed roll ≡ roll
  unfolding if_accepted
  roll-stays refused = rw (ne_eqb o.number 0 refused)

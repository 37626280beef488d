-- A call by the answer of its tests, and a call in turn and out of turn.
-- Assumes nothing.
use mathlib.Core.Path.{◌≡◌, refl, sym, ap, ◌∙◌}
use mathlib.Core.Bool.{Bool, true, false, not, cond, false≢true}
use mathlib.Core.List.{[], ◌∷◌}
use Prim.Native.Nat.{ℕ}
use lib.Dec.{eqb}
use borrow.Author.Tests.{eq-eqb, ne_eqb, eqb-true, not-false}
use Rattle.answers.proofs.Tests.{test, passed}
use Rattle.orders.specs.declared.Record.{Record}
use Rattle.orders.specs.declared.Outcome.{Outcome}
use Rattle.orders.specs.Record.{sound, refused}
use Rattle.orders.specs.Turn.{answered, turn_answer, in_turn}

module _ (answer : ℕ) (r : Record) (rest : Outcome) where
  pub answered-refused : {a : ℕ} → a ≡ answer → (a ≡ 0 → ⊥) → refused a r ≡ answered answer r rest
  unfolding answered
  answered-refused is other = ap (λ (k : ℕ). refused k r) is ∙ sym (rw (ne_eqb answer 0 (λ e. other (is ∙ e))))

  pub answered-rest : answer ≡ 0 → rest ≡ answered answer r rest
  unfolding answered
  answered-rest none = sym (rw (eq-eqb answer 0 none))

  pub answered-accepted : (answered answer r rest).number ≡ 0 → (answer ≡ 0) × (answered answer r rest ≡ rest)
  unfolding answered refused
  answered-accepted is = go (eqb answer 0) refl is
    where
      go : (t : Bool) → eqb answer 0 ≡ t → (cond t rest (refused answer r)).number ≡ 0 → (answer ≡ 0) × (cond t rest (refused answer r) ≡ rest)
      go true none is = (eqb-true answer 0 none, refl)
      go false some is = absurd (false≢true (sym some ∙ eq-eqb answer 0 is))

-- 3 comes before 17: an unsound record gets it in turn and out of turn
pub unsound-first : (r : Record) (out : Bool) → sound r ≡ false → turn_answer r out ≡ 3
unfolding turn_answer
unsound-first r out not_sound = rw not_sound

-- the tests of a call, by the answer a that the code works out from the test b
module _ (r : Record) {a : ℕ} {b out : Bool} (which : b ≡ out) (is : a ≡ turn_answer r b) where
  same_turn : a ≡ turn_answer r out
  same_turn = is ∙ ap (turn_answer r) which

  pub turn-passed : a ≡ 0 → (sound r ≡ true) × (out ≡ false)
  unfolding turn_answer
  turn-passed none =
      let p = (passed (λ (k : ℕ). k) (test (not (sound r)) 3 ∷ test out 17 ∷ []) 0 refl (sym same_turn ∙ none)).0 in
      (not-false (sound r) (p 0), p 1)

-- an accepted call was in turn
pub accepted-in-turn : (r : Record) {out : Bool} (rest : Outcome) → (in_turn r out rest).number ≡ 0 → (sound r ≡ true) × (out ≡ false) × (in_turn r out rest ≡ rest)
unfolding in_turn
accepted-in-turn r {out} rest is =
    let a = answered-accepted (turn_answer r out) r rest is in
    let t = turn-passed r refl refl a.0 in
    (t.0, t.1, a.1)

module _ (r : Record) {out : Bool} (ok : sound r ≡ true) (rest : Outcome) where
  pub in-turn : out ≡ false → in_turn r out rest ≡ rest
  unfolding in_turn turn_answer answered
  in-turn turn = rw (ok, turn)

  pub out-of-turn : out ≡ true → in_turn r out rest ≡ refused 17 r
  unfolding in_turn turn_answer answered
  out-of-turn wrong = rw (ok, wrong)

-- The roll after a call that takes bytes off an order, by what the call gives.
-- Assumes nothing.
use mathlib.Core.Path.{◌≡◌, refl, sym, ap, ◌∙◌}
use mathlib.Core.List.{List}
use Prim.Native.Nat.{ℕ}
use native.Mathlib.Omega.{arith}
use lib.ListN.{length}
use borrow.Author.Tests.{le-ltb}
use Rattle.std.specs.Prelude.{Result, Ok, Err}
use Rattle.std.specs.Result.{IsErrAnd}
use Rattle.std.proofs.lemmas.Result.{err_from_is_err_and}
use Rattle.lsh.specs.WordSize.{size_of}
use Rattle.answers.specs.declared.Refusal.{Refusal}
use Rattle.answers.specs.Refusal.{number}
use Rattle.answers.proofs.Numbers.{some_number}
use Rattle.orders.specs.declared.Record.{Record}
use Rattle.orders.specs.declared.Step.{Step}
use Rattle.orders.specs.declared.Outcome.{Outcome}
use Rattle.orders.specs.Record.{refused}
use Rattle.orders.specs.Step.{outcome}
use Rattle.orders.specs.Turn.{answered}
use Rattle.orders.proofs.InTurn.{answered-refused, answered-rest}
use Rattle.checkpoints.specs.Roll.{links, checkpoints}
use Rattle.checkpoints.specs.Checkpoints.{unlinked}
use Rattle.checkpoints.specs.RewindRoll.{cut_roll}
use Rattle.checkpoints.proofs.InTurn.{roll-stays}
use Rattle.checkpoints.proofs.Rewinding.{roll-cut}

-- as many links are left as an accepted call has checkpoints
pub cut-accepted : (w : ℕ) (r : Record) (x : Result Step Refusal) (step : Step) (roll : List ℕ) → x ≡ Ok step
    → unlinked (size_of w) (checkpoints w step.next.total) roll ≡ cut_roll w (outcome r x) roll
cut-accepted w r x step roll is = roll-cut w (outcome r (Ok step)) roll refl ∙ ap (λ (y : Result Step Refusal). cut_roll w (outcome r y) roll) (sym is)

-- and all where it is refused
pub cut-refused : (w : ℕ) (r : Record) (x : Result Step Refusal) (e : Refusal) (roll : List ℕ) → x ≡ Err e
    → unlinked (size_of w) (length (links (size_of w) roll)) roll ≡ cut_roll w (outcome r x) roll
unfolding unlinked cut_roll refused
cut-refused w r x e roll is =
    rw (le-ltb (length (links (size_of w) roll)) (length (links (size_of w) roll)) (omega arith))
    (sym (roll-stays (refused (number e) r) _ roll (some_number e)) ∙ ap (λ (y : Result Step Refusal). cut_roll w (outcome r y) roll) (sym is))

module _ (r : Record) (roll : List ℕ) (answer : ℕ) (rest : Outcome) where
  abbrev call : Outcome
  call = answered answer r rest

  -- refused by its first tests, it leaves the roll
  pub refused-first : (x : Result Step Refusal) (e : Refusal) → IsErrAnd x (λ y. y ≡ e) → number e ≡ answer → (outcome r x ≡ call) × (roll ≡ cut_roll r.w call roll)
  unfolding cut_roll refused
  refused-first x e passed first =
      let p = err_from_is_err_and x passed in
      let is : refused (number e) r ≡ call = answered-refused answer r rest first (some_number e) in
      (ap (outcome r) (p.1 ∙ ap Err p.2) ∙ is, sym (roll-stays (refused (number e) r) _ roll (some_number e)) ∙ ap (λ (o : Outcome). cut_roll r.w o roll) is)

  -- else it is as without a roll, and the roll goes by what it gives
  pub passed-first : answer ≡ 0 → (x : Result Step Refusal) → outcome r x ≡ rest → {after : List ℕ} → after ≡ cut_roll r.w (outcome r x) roll
      → (outcome r x ≡ call) × (after ≡ cut_roll r.w call roll)
  passed-first none x is cut =
      let same : outcome r x ≡ call = is ∙ answered-rest answer r rest none in
      (same, cut ∙ ap (λ (o : Outcome). cut_roll r.w o roll) same)

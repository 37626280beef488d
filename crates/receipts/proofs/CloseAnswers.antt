-- What an answer says of a call of Close.
-- Assumes nothing.
use mathlib.Core.Path.{◌≡◌, refl, sym, ◌∙◌}
use mathlib.Core.Bool.{true, not}
use mathlib.Core.List.{[], ◌∷◌}
use Prim.Native.Nat.{ℕ}
use borrow.Author.Tests.{not-false}
use Rattle.answers.proofs.Tests.{test, passed}
use Rattle.orders.specs.declared.Record.{Record}
use Rattle.orders.specs.Record.{sound}
use Rattle.receipts.specs.Ending.{end_answer}
use Rattle.receipts.proofs.Ending.{Ended, ended}
use Rattle.receipts.specs.Close.{close_answer}

-- an accepted call
pub record Accepted (r : Record) (last e size : ℕ) : Type 0 where
  pub sound_record : sound r ≡ true
  pub end : Ended last e size

pub accepted : (r : Record) (last e size : ℕ) → close_answer r last e size ≡ 0 → Accepted r last e size
unfolding close_answer
accepted r last e size is =
    let p = passed (λ (k : ℕ). k) (test (not (sound r)) 3 ∷ []) (end_answer last e size) refl is in
    record { sound_record = not-false (sound r) (p.0 0); end = ended last e size (sym p.1 ∙ is) }

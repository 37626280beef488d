-- An empty piece changes nothing with a roll either: no byte of any roll, and a sound record with a roll of it is returned as it is.
-- Assumes nothing.
use mathlib.Core.Path.{◌≡◌, refl, ap, ◌∙◌}
use mathlib.Core.Bool.{true, false}
use mathlib.Core.List.{List, []}
use Prim.Native.Nat.{ℕ, ◌+◌, ◌/◌}
use native.Mathlib.Nat.{add-zero}
use native.Mathlib.Omega.{arith}
use borrow.Author.Tests.{le-ltb}
use lib.Dec.{eqb}
use lib.ListN.{length}
use Rattle.lsh.proofs.Tests.{either}
use Rattle.lsh.specs.WordSize.{size_of, block_bytes}
use Rattle.answers.specs.First.{first}
use Rattle.limits.specs.Limits.{limit}
use Rattle.orders.specs.declared.Record.{Record}
use Rattle.orders.specs.declared.Outcome.{Outcome}
use Rattle.orders.specs.Record.{sound, is_begun}
use Rattle.orders.specs.Turn.{answered}
use Rattle.orders.specs.Arrays.{Arrays}
use Rattle.orders.proofs.Sound.{sounds}
use Rattle.orders.proofs.Empty.{accepted-empty}
use Rattle.checkpoints.specs.Due.{due_numbers}
use Rattle.checkpoints.specs.Slots.{slot_count}
use Rattle.checkpoints.specs.Roll.{links, is_roll_of}
use Rattle.checkpoints.specs.Checkpoints.{if_accepted}
use Rattle.checkpoints.proofs.Due.{due-none}
use Rattle.checkpoints.proofs.Form.{linked, roll-of}
use Rattle.checkpoints.proofs.InTurn.{roll-in-turn}
use Rattle.checkpoints.specs.AppendRoll.{due, is_full, append_roll_answer, append_roll_call, appended_roll}

-- no checkpoint is due
none-due : (r : Record) → due r 0 ≡ []
unfolding due
none-due r =
    let k : ℕ = r.total / block_bytes (size_of r.w) in
    ap (λ (t : ℕ). due_numbers k (t / block_bytes (size_of r.w))) (add-zero r.total) ∙ due-none k k (omega arith)

-- whatever the answer is
pub roll-empty : (r : Record) (roll : List ℕ) → appended_roll r [] roll ≡ roll
unfolding appended_roll if_accepted
roll-empty r roll = rw (none-due r) (either (λ (s : List ℕ). s ≡ roll) (eqb (append_roll_call r [] roll).number 0) (λ accepted. refl) (λ refused. refl))

-- a roll of the record has room for no more
room-empty : (r : Record) (roll : List ℕ) → is_roll_of r roll ≡ true → is_full r 0 roll ≡ false
unfolding is_full
room-empty r roll of =
    let z = size_of r.w in
    le-ltb (slot_count z (length roll)) (length (links z roll) + length (due r 0)) (omega (arith, ap length (none-due r), (linked z roll (roll-of r roll of).0).few))

pub append-roll-empty : (r : Record) → Arrays r → sound r ≡ true → is_begun r ≡ false → (roll : List ℕ) → is_roll_of r roll ≡ true
    → ◌≡◌ {A = Outcome} (append_roll_call r [] roll) (record { number = 0; count = 0; next = r })
unfolding append_roll_call append_roll_answer first answered
append-roll-empty r arrays ok idle roll of =
    rw (roll-in-turn r (is_begun r) roll ok idle, of, le-ltb limit (r.total + 0) (omega (arith, (sounds r ok).few)), room-empty r roll of) (accepted-empty r arrays ok)

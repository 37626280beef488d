-- What the answer to an Append with a roll says, and the outcome and the roll by its number.
-- Assumes nothing.
use mathlib.Core.Path.{◌≡◌, refl, sym, ap, ◌∙◌}
use mathlib.Core.Bool.{true, false, cond}
use mathlib.Core.List.{List, [], ◌∷◌}
use Prim.Native.Nat.{ℕ, ◌+◌, ◌/◌, ◌≤◌}
use native.Mathlib.Nat.{div-le_self}
use native.Mathlib.Omega.{arith}
use lib.Dec.{ltb}
use lib.ListN.{length}
use borrow.Author.Tests.{ltb-false}
use Rattle.lsh.specs.WordSize.{size_of, block_bytes}
use Rattle.answers.proofs.Tests.{test, passed}
use Rattle.answers.proofs.First.{both-passed}
use Rattle.limits.specs.Limits.{limit}
use Rattle.orders.specs.declared.Record.{Record}
use Rattle.orders.specs.declared.Outcome.{Outcome}
use Rattle.orders.specs.Record.{sound, is_begun, refused}
use Rattle.orders.proofs.InTurn.{answered-refused, answered-rest}
use Rattle.orders.specs.Append.{append_accepted}
use Rattle.checkpoints.specs.Due.{checkpoints_at}
use Rattle.checkpoints.specs.Slots.{slot_count}
use Rattle.checkpoints.specs.Roll.{links, checkpoints, is_roll_of, roll_answer}
use Rattle.checkpoints.specs.Checkpoints.{inserted_all}
use Rattle.checkpoints.proofs.Due.{due-many}
use Rattle.checkpoints.proofs.Spacing.{no-fewer}
use Rattle.checkpoints.proofs.Form.{roll-of}
use Rattle.checkpoints.proofs.InTurn.{roll-passed, roll-changed, roll-stays}
use Rattle.checkpoints.specs.AppendRoll.{due, is_full, append_roll_answer, append_roll_call, chain_at, appended_roll}

-- a call that is accepted passed every test
pub record Accepted (r : Record) (size : ℕ) (roll : List ℕ) : Type 0 where
  pub sound_record : sound r ≡ true
  pub idle : is_begun r ≡ false
  pub roll_of : is_roll_of r roll ≡ true
  pub within : r.total + size ≤ limit
  pub room : length (links (size_of r.w) roll) + length (due r size) ≤ slot_count (size_of r.w) (length roll)

pub accepted : (r : Record) (size : ℕ) (roll : List ℕ) → append_roll_answer r size roll ≡ 0 → Accepted r size roll
unfolding append_roll_answer is_full
accepted r size roll e =
    let z = size_of r.w in
    let over = ltb limit (r.total + size) in
    let full = is_full r size roll in
    let both = both-passed (roll_answer r (is_begun r) roll) (cond over 5 (cond full 16 0)) e in
    let of = roll-passed r (is_begun r) roll both.0 in
    let p = (passed (λ (k : ℕ). k) (test over 5 ∷ test full 16 ∷ []) 0 refl both.1).0 in
    record {
      sound_record = of.0;
      idle = of.1;
      roll_of = of.2;
      within = ltb-false limit (r.total + size) (p 0);
      room = ltb-false (slot_count z (length roll)) (length (links z roll) + length (due r size)) (p 1);
    }

-- the links of a roll of the record and the checkpoints due are the checkpoints of the order with the piece
pub full_is : (r : Record) (size : ℕ) (roll : List ℕ) → is_roll_of r roll ≡ true
    → is_full r size roll ≡ ltb (slot_count (size_of r.w) (length roll)) (checkpoints r.w (r.total + size))
unfolding is_full due checkpoints
full_is r size roll e =
    let z = size_of r.w in
    let many : length (links z roll) + length (due r size) ≡ checkpoints r.w (r.total + size) =
    omega (
      arith,
      (roll-of r roll e).1,
      due-many (r.total / block_bytes z) ((r.total + size) / block_bytes z),
      no-fewer r.w r.total (r.total + size) (omega arith),
    ) in
    ap (ltb (slot_count z (length roll))) many

-- no more blocks are run than the order has bytes
pub few-blocks : (r : Record) (p : List ℕ) → (append_accepted r p).count ≤ r.total + length p
unfolding append_accepted
few-blocks r p = omega (arith, div-le_self (r.total + length p) (block_bytes (size_of r.w)))

-- the roll with every checkpoint that is due
abbrev pub goal-of : Record → List ℕ → List ℕ → List ℕ
goal-of r piece roll = inserted_all (size_of r.w) (checkpoints_at (chain_at r piece) (due r (length piece))) roll

-- the outcome and the roll by the number of the answer
module _ (r : Record) (piece roll : List ℕ) {a : ℕ} (is : a ≡ append_roll_answer r (length piece) roll) where
  pub refused-call : (a ≡ 0 → ⊥) → (refused a r ≡ append_roll_call r piece roll) × (roll ≡ appended_roll r piece roll)
  unfolding append_roll_call appended_roll refused
  refused-call ne =
      let call = answered-refused (append_roll_answer r (length piece) roll) r (append_accepted r piece) is ne in
      (call, sym (roll-stays _ (goal-of r piece roll) roll (λ e. ne (ap (λ (o : Outcome). o.number) call ∙ e))))

  pub accepted-call : a ≡ 0 → (append_accepted r piece ≡ append_roll_call r piece roll) × (goal-of r piece roll ≡ appended_roll r piece roll)
  unfolding append_roll_call appended_roll append_accepted
  accepted-call e =
      let call = answered-rest (append_roll_answer r (length piece) roll) r (append_accepted r piece) (sym is ∙ e) in
      (call, sym (roll-changed _ (goal-of r piece roll) roll (ap (λ (o : Outcome). o.number) (sym call))))

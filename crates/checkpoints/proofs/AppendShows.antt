-- What a roll shows after an Append, for every record and roll that it takes: the checkpoints that it showed, and behind them those that are due. A slot
-- that is not linked then keeps its bytes.
-- Assumes nothing.
use mathlib.Core.Path.{◌≡◌, refl, sym, ap, subst}
use mathlib.Core.Bool.{true, false}
use mathlib.Core.List.{List, ◌++◌}
use Prim.Native.Nat.{ℕ, ◌+◌, ◌-◌, ◌/◌, ◌≤◌, ◌<◌}
use native.Mathlib.Decide.{ℕ_discrete}
use native.Mathlib.Omega.{arith}
use lib.ListN.{length}
use Rattle.lsh.specs.WordSize.{WordSize, size_of, block_bytes}
use Rattle.lsh.specs.Block.{Chain}
use Rattle.lsh.proofs.Figures.{amounts}
use Rattle.lsh.proofs.Bytes.{octets}
use Rattle.lsh.proofs.Chains.{after-chain}
use Rattle.orders.specs.declared.Record.{Record}
use Rattle.orders.specs.Record.{held_bytes}
use Rattle.orders.proofs.Sound.{sounds, chain-is}
use Rattle.checkpoints.specs.Due.{checkpoints_at, spacing, due_numbers}
use Rattle.checkpoints.specs.Slots.{slot_count, slot_at}
use Rattle.checkpoints.specs.Members.{member}
use Rattle.checkpoints.specs.Roll.{links, shown, checkpoints, is_roll_of}
use Rattle.checkpoints.proofs.Due.{due-many}
use Rattle.checkpoints.proofs.Form.{roll-of}
use Rattle.checkpoints.proofs.Shown.{Inserted, inserted-all}
use Rattle.checkpoints.specs.AppendRoll.{due, append_roll_answer, chain_at, appended_roll}
use Rattle.checkpoints.proofs.AppendAnswers.{Accepted, accepted, goal-of, refused-call, accepted-call}

-- the checkpoints due, on a roll of the record that has room for them
module _ (r : Record) (chain : Chain (size_of r.w) r.chain) (piece roll : List ℕ) where
  pub chains : (j : ℕ) → Chain (size_of r.w) (chain_at r piece j)
  unfolding chain_at
  chains j = after-chain (size_of r.w) r.chain (held_bytes r ++ piece) (amounts r.w) chain _

  pub inserted-due : is_roll_of r roll ≡ true
      → length (links (size_of r.w) roll) + length (due r (length piece)) ≤ slot_count (size_of r.w) (length roll)
      → Inserted (size_of r.w) (octets r.w) (chain_at r piece) chains roll (due r (length piece)) (goal-of r piece roll)
  unfolding due due_numbers checkpoints
  inserted-due of room =
      let Z = size_of r.w in
      let old : ℕ = r.total / block_bytes Z in
      let new : ℕ = (r.total + length piece) / block_bytes Z in
      let is = roll-of r roll of in
      inserted-all Z (octets r.w) (chain_at r piece) chains (new / spacing - old / spacing) (old / spacing) roll is.0 is.1 (omega (arith, room, is.1, due-many old new))

module _ (r : Record) (words : length r.chain ≡ 16) (piece roll : List ℕ) where
  abbrev Z : WordSize
  Z = size_of r.w

  module _ (taken : append_roll_answer r (length piece) roll ≡ 0) where
    pass : Accepted r (length piece) roll
    pass = accepted r (length piece) roll taken

    chain : Chain Z r.chain
    chain = let is = sounds r pass.sound_record in chain-is r.w r.chain is.word words is.below

    all : Inserted Z (octets r.w) (chain_at r piece) (chains r chain piece roll) roll (due r (length piece)) (appended_roll r piece roll)
    all =
        subst (Inserted Z (octets r.w) (chain_at r piece) (chains r chain piece roll) roll (due r (length piece))) (accepted-call r piece roll refl taken).1
        (inserted-due r chain piece roll pass.roll_of pass.room)

    pub appended-shown : shown Z (appended_roll r piece roll) ≡ shown Z roll ++ checkpoints_at (chain_at r piece) (due r (length piece))
    appended-shown = all.shows

  -- also where it refuses
  pub untaken : (j : ℕ) → 0 < j → member j (links Z (appended_roll r piece roll)) ≡ false → slot_at Z (appended_roll r piece roll) j ≡ slot_at Z roll j
  untaken j some free = go (ℕ_discrete (append_roll_answer r (length piece) roll) 0)
    where
      go : Dec (append_roll_answer r (length piece) roll ≡ 0) → slot_at Z (appended_roll r piece roll) j ≡ slot_at Z roll j
      go (yes taken) = ((all taken).untaken j some free).1
      go (no refused) = ap (λ (s : List ℕ). slot_at Z s j) (sym (refused-call r piece roll refl refused).1)

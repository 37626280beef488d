-- `roll::insert` visits its contract. Assumes nothing.
use mathlib.Core.Path.{◌≡◌, sym, ap, ◌∙◌}
use mathlib.Core.List.{List}
use Prim.Native.Nat.{ℕ, ◌≤◌, ◌<◌}
use native.Mathlib.Nat.{le_refl}
use native.Mathlib.Omega.{arith}
use lib.ListN.{length}
use Rattle.std.specs.Prelude.{Some}
use Rattle.lsh.specs.WordSize.{WordSize, size_of}
use Rattle.lsh.proofs.Bytes.{Octets, octets}
use Rattle.roll.specs.declared.Traversal.{Traversal}
use Rattle.checkpoints.specs.Slots.{slot_count}
use Rattle.checkpoints.specs.Roll.{links}
use Rattle.checkpoints.specs.FreeSlot.{free_slot}
use Rattle.checkpoints.specs.Checkpoints.{with_index, with_slot, lead_to, taken, inserted}
use Rattle.roll.specs.Traversal.{traversal_of}
use Rattle.checkpoints.proofs.Form.{Linked, linked, Sized, sized}
use Rattle.checkpoints.proofs.Shown.{lead-in, taken-within}
use Rattle.checkpoints.proofs.Writes.{slot-size}
use Rattle.roll.proofs.Walked.{known, Known, known-roll, traversal-more}
use Rattle.roll.proofs.insert.Goals as goal
use Rattle.roll.proofs.insert.Goals.{After-free_slot-i, After-put_slot, Start}

module _ (z : Start) where
  abbrev Z : WordSize
  Z = size_of z.args.w

  abbrev S : List ℕ
  S = z.args.roll.now

  ok : Octets Z
  ok = octets z.args.w

  walked : Known Z S z.args.y
  walked = known-roll Z S z.requires.2

  have : Linked Z S
  have = linked Z S walked.is

  sizes : Sized Z S
  sizes = sized Z S have.right

  traversal : z.args.y ≡ known Z S
  traversal = walked.traversal

  slots : z.args.y.slots ≡ slot_count Z (length S)
  slots = ap (λ (y : Traversal). y.slots) traversal

  count : z.args.y.count ≡ length (links Z S)
  count = ap (λ (y : Traversal). y.count) traversal

  last : z.args.y.last ≡ lead_to Z S (length (links Z S))
  last = ap (λ (y : Traversal). y.last) traversal

  room : length (links Z S) < slot_count Z (length S)
  room = omega (arith, z.requires.3, slots, count)

  within : (0 < taken Z S) × (taken Z S ≤ slot_count Z (length S))
  within = taken-within Z ok S walked.is room (record { number = 0; chain = z.args.t }) z.requires.1

free-is : (c : After-free_slot-i) → c.free_slot-i.result ≡ taken (Z (goal.at.After-free_slot-i c).Start) (S (goal.at.After-free_slot-i c).Start)
unfolding taken
free-is c =
    let z = (goal.at.After-free_slot-i c).Start in
    c.free_slot-i.ensures (links (Z z) (S z)) (ap (λ (y : Traversal). y.marks) (traversal z)) ∙ ap (λ (k : ℕ). free_slot k (links (Z z) (S z))) (slots z)

free_in : (c : After-free_slot-i) → (0 < c.free_slot-i.result) × (c.free_slot-i.result ≤ slot_count (Z (goal.at.After-free_slot-i c).Start) (length (S (goal.at.After-free_slot-i c).Start)))
free_in c = rw (free-is c) (within (goal.at.After-free_slot-i c).Start)

-- the roll with the slot written is as long
written : (c : After-put_slot) → length c.put_slot.new.roll ≡ length (S (goal.at.After-put_slot c).Start)
written c =
    let f = (goal.at.After-put_slot c).After-free_slot-i in
    let z = (goal.at.After-put_slot c).Start in
    ap length c.put_slot.ensures
    ∙ slot-size (Z z) (ok z) (slot_count (Z z) (length (S z))) (S z) (sizes z).size f.free_slot-i.result (free_in f).1 (free_in f).0 z.args.t z.requires.1

inserted-is : (z : WordSize) (s t : List ℕ) (k : ℕ) {u : List ℕ} {l i : ℕ} → u ≡ with_slot z s i t → l ≡ lead_to z s (length (links z s)) → i ≡ taken z s
    → with_index z u l i ≡ inserted z (record { number = k; chain = t }) s
unfolding inserted
inserted-is z s t k slot last chosen = rw (slot, last, chosen)

pub returns : goal.returns
returns c = let f = (goal.at.returns c).After-free_slot-i in
    let z = (goal.at.returns c).Start in
    let bytes : (k : ℕ) → c.put_index.new.roll ≡ inserted (Z z) (record { number = k; chain = z.args.t }) (S z) =
    λ k. c.put_index.ensures ∙ inserted-is (Z z) (S z) z.args.t k c.put_slot.ensures (last z) (free-is f) in (
      bytes,
      ap Some c.with_link.ensures ∙ traversal-more (Z z) (ok z) (S z) (walked z).is (record { number = 0; chain = z.args.t }) z.requires.1 (room z) (traversal z) (free-is f) ∙ ap (traversal_of (Z z)) (sym (bytes 0)),
    )

pub free_slot-i-requires : goal.free_slot-i-requires
free_slot-i-requires c = let z = (goal.at.free_slot-i-requires c).Start in omega (arith, slots z, (sizes z).most)

pub put_slot-requires : goal.put_slot-requires
put_slot-requires c = let z = (goal.at.put_slot-requires c).Start in (z.requires.0, z.requires.1, (have z).right, (free_in (goal.at.put_slot-requires c).After-free_slot-i).0, (free_in (goal.at.put_slot-requires c).After-free_slot-i).1)

pub put_index-requires : goal.put_index-requires
put_index-requires c = let s = (goal.at.put_index-requires c).After-put_slot in
    let f = (goal.at.put_index-requires c).After-free_slot-i in
    let z = (goal.at.put_index-requires c).Start in (
      rw (written s) (have z).right,
      omega (
        arith,
        last z,
        ap (slot_count (Z z)) (written s),
        lead-in (Z z) (ok z) (S z) (walked z).is (length (links (Z z) (S z))) (le_refl (length (links (Z z) (S z)))),
      ),
      omega (arith, (free_in f).1, (sizes z).most),
    )

pub with_link-requires : goal.with_link-requires
with_link-requires c = let f = (goal.at.with_link-requires c).After-free_slot-i in
    let z = (goal.at.with_link-requires c).Start in
    (omega (arith, (free_in f).1, (sizes z).most), omega (arith, count z, room z, (sizes z).most))

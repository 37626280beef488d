-- What the tests of a roll say, and that a walk that ends in it passes them.
-- Assumes nothing.
use mathlib.Core.Path.{◌≡◌, refl, ap, ◌∙◌}
use mathlib.Core.Bool.{true, false, not, ◌&&◌, false≢true}
use mathlib.Core.List.{List, []}
use Prim.Native.Nat.{ℕ, suc, ◌+◌, ◌-◌, ◌*◌, ◌/◌, ◌≤◌, ◌<◌}
use native.Mathlib.Nat.{mul-div_cancel}
use native.Mathlib.Omega.{arith}
use lib.Dec.{eqb, leb}
use lib.ListN.{length, length-replicate}
use borrow.Author.Tests.{eqb-true, leb-true, not-true, le-leb, eq-eqb}
use Rattle.lsh.specs.WordSize.{WordSize, size_of}
use Rattle.lsh.specs.Bytes.{word_at}
use Rattle.lsh.proofs.Tests.{and-true}
use Rattle.lsh.proofs.Opening.{at-zeros}
use Rattle.orders.specs.declared.Record.{Record}
use Rattle.checkpoints.specs.Slots.{index_bytes, most_slots, slot_bytes, roll_bytes, slot_count, is_roll_length, index_place}
use Rattle.checkpoints.specs.Members.{member, repeats, all_up_to}
use Rattle.checkpoints.specs.Roll.{new_roll, next_index, links, checkpoints_in, shown, is_roll, checkpoints, is_roll_of}
use Rattle.checkpoints.proofs.Members.{each-up-to, all-up-to, distinct-few}
use Rattle.checkpoints.proofs.Traversals.{Leads, visited-leads, leads-visited, visited-some}

module _ (z : WordSize) where
  -- a buffer of right length
  pub record Sized (s : List ℕ) : Type 0 where
    pub some : 1 ≤ slot_count z (length s)
    pub most : slot_count z (length s) ≤ most_slots
    pub size : length s ≡ roll_bytes z (slot_count z (length s))

  pub sized : (s : List ℕ) → is_roll_length z (length s) ≡ true → Sized s
  unfolding is_roll_length
  sized s e =
      let k : ℕ = slot_count z (length s) in
      let p : (leb 1 k && leb k most_slots ≡ true) × (eqb (length s) (roll_bytes z k) ≡ true) =
      and-true (leb 1 k && leb k most_slots) (eqb (length s) (roll_bytes z k)) e in
      let q : (leb 1 k ≡ true) × (leb k most_slots ≡ true) = and-true (leb 1 k) (leb k most_slots) p.0 in
      record { some = leb-true 1 k q.0; most = leb-true k most_slots q.1; size = eqb-true (length s) (roll_bytes z k) p.1 }

  -- a roll: the walk of its links, which ends, and has each slot once
  pub record Linked (s : List ℕ) : Type 0 where
    pub right : is_roll_length z (length s) ≡ true
    pub distinct : repeats (links z s) ≡ false
    pub within : (x : ℕ) → member x (links z s) ≡ true → (0 < x) × (x ≤ slot_count z (length s))
    pub few : length (links z s) ≤ slot_count z (length s)
    pub traversal : Leads (next_index z s) (next_index z s 0) (links z s)

  visited-traversal : (s : List ℕ) → length (links z s) ≤ slot_count z (length s) → Leads (next_index z s) (next_index z s 0) (links z s)
  unfolding links
  visited-traversal s few = leads-visited (next_index z s) (suc (slot_count z (length s))) (next_index z s 0) (omega arith)

  pub links-some : (s : List ℕ) (x : ℕ) → member x (links z s) ≡ true → 0 < x
  unfolding links
  links-some s x h = visited-some (next_index z s) (suc (slot_count z (length s))) (next_index z s 0) x h

  pub linked : (s : List ℕ) → is_roll z s ≡ true → Linked s
  unfolding is_roll
  linked s e =
      let k : ℕ = slot_count z (length s) in
      let p : (is_roll_length z (length s) && all_up_to k (links z s) ≡ true) × (not (repeats (links z s)) ≡ true) =
      and-true (is_roll_length z (length s) && all_up_to k (links z s)) (not (repeats (links z s))) e in
      let q : (is_roll_length z (length s) ≡ true) × (all_up_to k (links z s) ≡ true) = and-true (is_roll_length z (length s)) (all_up_to k (links z s)) p.0 in
      let d : repeats (links z s) ≡ false = not-true (repeats (links z s)) p.1 in
      let each : (x : ℕ) → member x (links z s) ≡ true → (0 < x) × (x ≤ k) = λ x h. (links-some s x h, each-up-to k (links z s) q.1 x h) in
      let few : length (links z s) ≤ k = distinct-few k (links z s) d each in
      record { right = q.0; distinct = d; within = each; few = few; traversal = visited-traversal s few }

  -- a buffer of right length in which the walk from the head is l, and has each slot once
  module _ (s l : List ℕ) (right : is_roll_length z (length s) ≡ true) (traversal : Leads (next_index z s) (next_index z s 0) l)
      (distinct : repeats l ≡ false) (within : (x : ℕ) → member x l ≡ true → (0 < x) × (x ≤ slot_count z (length s))) where
    pub links-are : links z s ≡ l
    unfolding links
    links-are =
        visited-leads (next_index z s) l (suc (slot_count z (length s))) (next_index z s 0) traversal
        (omega (arith, distinct-few (slot_count z (length s)) l distinct within))

    pub is-roll : is_roll z s ≡ true
    unfolding is_roll
    is-roll = rw (links-are, right, all-up-to (slot_count z (length s)) l (λ x h. (within x h).1), distinct)

  -- a new roll has no links
  module _ (k : ℕ) (some : 1 ≤ k) (most : k ≤ most_slots) where
    pub slots-are : slot_count z (roll_bytes z k) ≡ k
    unfolding slot_count roll_bytes slot_bytes
    slots-are = ap (λ (n : ℕ). n / slot_bytes z) (before k) ∙ mul-div_cancel k positive
      where
        before : (k : ℕ) → index_bytes + k * slot_bytes z - index_bytes ≡ k * slot_bytes z
        before k = omega arith

        positive : 0 < slot_bytes z
        positive = omega arith

    pub new-size : length (new_roll z k) ≡ roll_bytes z k
    unfolding new_roll
    new-size = length-replicate (roll_bytes z k) 0

    right-length : is_roll_length z (roll_bytes z k) ≡ true
    unfolding is_roll_length
    right-length = rw (slots-are, le-leb 1 k some, le-leb k most_slots most, eq-eqb (roll_bytes z k) (roll_bytes z k) refl)

    new-right : is_roll_length z (length (new_roll z k)) ≡ true
    new-right = ap (is_roll_length z) new-size ∙ right-length

    new-traversal : Leads (next_index z (new_roll z k)) (next_index z (new_roll z k) 0) []
    unfolding next_index new_roll index_place word_at
    new-traversal = rw (at-zeros (roll_bytes z k) 0, at-zeros (roll_bytes z k) 1)

    new-links : links z (new_roll z k) ≡ []
    new-links = links-are (new_roll z k) [] new-right new-traversal refl (λ x h. absurd (false≢true h))

    pub new-shown : shown z (new_roll z k) ≡ []
    unfolding shown
    new-shown = ap (checkpoints_in z (new_roll z k) 1) new-links

    pub new-roll : is_roll z (new_roll z k) ≡ true
    new-roll = is-roll (new_roll z k) [] new-right new-traversal refl (λ x h. absurd (false≢true h))

-- a roll of a record: it is a roll, with a link for each of the record's checkpoints
pub roll-of : (r : Record) (s : List ℕ) → is_roll_of r s ≡ true
    → (is_roll (size_of r.w) s ≡ true) × (length (links (size_of r.w) s) ≡ checkpoints r.w r.total)
unfolding is_roll_of
roll-of r s e =
    let z : WordSize = size_of r.w in
    let p = and-true (is_roll z s) (eqb (length (links z s)) (checkpoints r.w r.total)) e in
    (p.0, eqb-true (length (links z s)) (checkpoints r.w r.total) p.1)

pub is-roll-of : (r : Record) (s : List ℕ) → is_roll (size_of r.w) s ≡ true → length (links (size_of r.w) s) ≡ checkpoints r.w r.total → is_roll_of r s ≡ true
unfolding is_roll_of
is-roll-of r s is many = rw (is, eq-eqb (length (links (size_of r.w) s)) (checkpoints r.w r.total) many)

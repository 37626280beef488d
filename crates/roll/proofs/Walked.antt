-- The walk from the head: what is known after count links, and what is known at its end. L are the links that the definition visits.
-- Assumes nothing.
use mathlib.Core.Path.{◌≡◌, refl, sym, ap, ap₂, ◌∙◌}
use mathlib.Core.Bool.{Bool, true, false, cond, ◌||◌, false≢true}
use mathlib.Core.Logic.{⊎_elim}
use mathlib.Core.List.{List, [], ◌∷◌, ◌++◌}
use Prim.Native.Nat.{ℕ, zero, suc, ◌+◌, ◌≤◌, ◌<◌, zero-le}
use native.Mathlib.Numerals.{add-one}
use native.Mathlib.Decide.{ℕ_discrete, dec_lt}
use native.Mathlib.Omega.{arith}
use lib.Dec.{eqb}
use lib.ListN.{length, take, set, replicate, length-append, length-replicate, length-set, get_or-replicate, get_or-eq_default}
use lib.Seq.{take-suc, take_all, length-take-le, get_or-set_same, get_or-set_other, get_or_at}
use borrow.Author.Tests.{eq-eqb, ne_eqb}
use Rattle.std.specs.Prelude.{Option, Some, None}
use Rattle.lsh.specs.Tabulate.{at}
use Rattle.lsh.specs.WordSize.{WordSize}
use Rattle.lsh.specs.Block.{Chain}
use Rattle.lsh.proofs.Bytes.{Octets}
use Rattle.lsh.proofs.Tabulate.{length-tabulate, at-tabulate, tabulate-ext}
use Rattle.lists.proofs.Repeats.{one-take, one-snoc, repeats-snoc}
use Rattle.roll.specs.declared.Traversal.{Traversal}
use Rattle.checkpoints.specs.Due.{Checkpoint}
use Rattle.checkpoints.specs.Slots.{most_slots, slot_count, is_roll_length}
use Rattle.checkpoints.specs.Members.{member, repeats, all_up_to}
use Rattle.checkpoints.specs.Roll.{next_index, links, is_roll}
use Rattle.checkpoints.specs.Checkpoints.{lead_to, taken, inserted}
use Rattle.roll.specs.Traversal.{marked, traversal_of}
use Rattle.checkpoints.proofs.Members.{eqb-equivalence, member-at, member-cases, repeats-again, distinct-few, all-up-to}
use Rattle.checkpoints.proofs.Traversals.{visited-first, visited-next}
use Rattle.checkpoints.proofs.Form.{sized, Linked, linked, links-some}
use Rattle.checkpoints.proofs.Shown.{taken-within, inserted-size, inserted-links, inserted-roll}

-- the marks of a list

pub marked-none : replicate (most_slots + 1) 0 ≡ marked []
unfolding marked
marked-none =
    sym (tabulate-ext (most_slots + 1) (λ i. 0) (replicate (most_slots + 1) 0) (length-replicate {A = ℕ} (most_slots + 1) 0)
    (λ i lt. sym (get_or-replicate (most_slots + 1) i 0 0 lt)))

module _ (l : List ℕ) where
  pub marked-length : length (marked l) ≡ most_slots + 1
  unfolding marked
  marked-length = length-tabulate (most_slots + 1) (λ i. cond (member i l) 1 0)

  marked-at : (i : ℕ) → i ≤ most_slots → at (marked l) i ≡ cond (member i l) 1 0
  unfolding marked
  marked-at i le = at-tabulate (most_slots + 1) (λ j. cond (member j l) 1 0) i (omega arith)

  pub unmarked : (i : ℕ) → i ≤ most_slots → at (marked l) i ≡ 0 → member i l ≡ false
  unmarked i le e = go (member i l) (sym (marked-at i le) ∙ e)
    where
      go : (b : Bool) → ◌≡◌ {A = ℕ} (cond b 1 0) 0 → b ≡ false
      go true h = absurd (omega arith)
      go false h = refl

  pub marked-is : (i : ℕ) → i ≤ most_slots → (at (marked l) i ≡ 0 → ⊥) → member i l ≡ true
  marked-is i le ne = go (member i l) (λ h. ne (marked-at i le ∙ h))
    where
      go : (b : Bool) → (◌≡◌ {A = ℕ} (cond b 1 0) 0 → ⊥) → b ≡ true
      go true h = refl
      go false h = absurd (h refl)

  pub marked_more : (i : ℕ) → i ≤ most_slots → set (marked l) i 1 ≡ marked (l ++ i ∷ [])
  unfolding marked
  marked_more i le =
      sym (tabulate-ext (most_slots + 1) (λ j. cond (member j (l ++ i ∷ [])) 1 0) (set (marked l) i 1)
      (length-set (marked l) i 1 ∙ marked-length) (λ j lt. ap (λ (b : Bool). cond {A = ℕ} b 1 0) (one-snoc eqb j i l) ∙ go j (omega arith) (ℕ_discrete j i)))
    where
      go : (j : ℕ) → j ≤ most_slots → Dec (j ≡ i) → cond (eqb j i || member j l) 1 0 ≡ at (set (marked l) i 1) j
      go j lj (yes e) =
          rw (eq-eqb j i e)
          (sym (ap (at (set (marked l) i 1)) e ∙ get_or-set_same (marked l) i 1 0 (rw marked-length (omega arith))))
      go j lj (no ne) = rw (ne_eqb j i ne) (sym (get_or-set_other (marked l) i j 1 0 ne ∙ marked-at j lj))

module _ (z : WordSize) (s : List ℕ) where
  abbrev L : List ℕ
  L = links z s

  abbrev k : ℕ
  k = slot_count z (length s)

  pub record Walked (marks : List ℕ) (count last i : ℕ) : Type 0 where
    pub up_to : count ≤ length L
    pub links : marks ≡ marked (take count L)
    pub end : last ≡ at (0 ∷ L) count
    pub here : i ≡ at L count
    pub distinct : repeats (take count L) ≡ false
    pub within : (x : ℕ) → member x (take count L) ≡ true → (0 < x) × (x ≤ k)

  pub walked_none : {marks : List ℕ} {i : ℕ} → marks ≡ replicate (most_slots + 1) 0 → i ≡ next_index z s 0 → Walked marks 0 0 i
  unfolding links
  walked_none none e =
      record {
        up_to = zero-le;
        links = none ∙ marked-none;
        end = refl;
        here = e ∙ visited-first (next_index z s) (suc k) (next_index z s 0) (omega arith);
        distinct = refl;
        within = λ x h. absurd (false≢true h);
      }

  pub not-roll : (Linked z s → ⊥) → None ≡ traversal_of z s
  unfolding traversal_of
  not-roll never = go (is_roll z s) refl
    where
      go : (b : Bool) → is_roll z s ≡ b → None ≡ traversal_of z s
      go true e = absurd (never (linked z s e))
      go false e = rw e

  module _ (right : is_roll_length z (length s) ≡ true) {marks : List ℕ} {count last i : ℕ} (w : Walked marks count last i) where
    some_left : (i ≡ 0 → ⊥) → count < length L
    some_left ne = go (dec_lt count (length L))
      where
        go : Dec (count < length L) → count < length L
        go (yes h) = h
        go (no h) = absurd (ne (w.here ∙ get_or-eq_default L 0 {n = count} (omega arith)))

    is-link : (i ≡ 0 → ⊥) → member i L ≡ true
    is-link ne = ap (λ (x : ℕ). member x L) w.here ∙ member-at L count (some_left ne)

    -- an index beyond the slots
    pub walked-beyond : (i ≡ 0 → ⊥) → k < i → None ≡ traversal_of z s
    walked-beyond ne beyond = not-roll (λ h. omega (arith, (h.within i (is-link ne)).1))

    -- a slot visited twice
    pub walked-twice : (i ≡ 0 → ⊥) → i ≤ k → (at marks i ≡ 0 → ⊥) → None ≡ traversal_of z s
    walked-twice ne le set_is =
        let in-marks : i ≤ most_slots = omega (arith, (sized z s right).most) in
        let again : member i (take count L) ≡ true =
        marked-is (take count L) i in-marks (λ e. set_is (ap (λ (m : List ℕ). at m i) w.links ∙ e)) in
        let two : repeats L ≡ true = repeats-again count L (some_left ne) (ap (λ (x : ℕ). member x (take count L)) (sym w.here) ∙ again) in
        not-roll (λ h. false≢true (sym h.distinct ∙ two))

    -- one link more
    module _ (ne : i ≡ 0 → ⊥) (le : i ≤ k) (clear : at marks i ≡ 0) where
      in-marks : i ≤ most_slots
      in-marks = omega (arith, (sized z s right).most)

      fresh : member i (take count L) ≡ false
      fresh = unmarked (take count L) i in-marks (ap (λ (m : List ℕ). at m i) (sym w.links) ∙ clear)

      longer : take (count + 1) L ≡ take count L ++ i ∷ []
      longer = rw add-one (take-suc L count 0 (some_left ne) ∙ ap (λ (x : ℕ). take count L ++ x ∷ []) (sym w.here))

      distinct_more : repeats (take (count + 1) L) ≡ false
      distinct_more = ap repeats longer ∙ repeats-snoc eqb eqb-equivalence i (take count L) w.distinct fresh

      within_more : (x : ℕ) → member x (take (count + 1) L) ≡ true → (0 < x) × (x ≤ k)
      within_more x h =
          ⊎_elim (λ e. (links-some z s x (one-take eqb x (count + 1) L h), omega arith)) (w.within x)
          (member-cases x i (take count L) (sym (one-snoc eqb x i (take count L)) ∙ ap (member x) (sym longer) ∙ h))

      -- as many as there are slots at most
      pub walked-few : count < k
      walked-few =
          omega (
            arith,
            distinct-few k (take (count + 1) L) distinct_more within_more,
            length-take-le (count + 1) L (omega (arith, some_left ne)),
          )

      next_here : (next : ℕ) → next ≡ next_index z s i → next ≡ at L (count + 1)
      unfolding links
      next_here next e =
          e ∙ ap (next_index z s) w.here
          ∙ visited-next (next_index z s) (suc k) (next_index z s 0) count (some_left ne) (omega (arith, walked-few))
          ∙ ap (at L) (sym (add-one count))

      pub walked_more : (next : ℕ) → next ≡ next_index z s i → Walked (set marks i 1) (count + 1) i next
      walked_more next e =
          record {
            up_to = omega (arith, some_left ne);
            links = ap (λ (m : List ℕ). set m i 1) w.links ∙ marked_more (take count L) i in-marks ∙ ap marked (sym longer);
            end = w.here ∙ ap (at (0 ∷ L)) (sym (add-one count));
            here = next_here next e;
            distinct = distinct_more;
            within = within_more;
          }

    -- the end of the walk
    module _ (none : i ≡ 0) where
      all-visited : count ≡ length L
      all-visited = go (dec_lt count (length L))
        where
          go : Dec (count < length L) → count ≡ length L
          go (yes h) = absurd (omega (arith, links-some z s (at L count) (member-at L count h), w.here))
          go (no h) = omega (arith, w.up_to)

      whole : take count L ≡ L
      whole = take_all count L (omega (arith, all-visited))

      is-roll : is_roll z s ≡ true
      unfolding is_roll
      is-roll =
          let d : repeats L ≡ false = ap repeats (sym whole) ∙ w.distinct in
          let u : all_up_to k L ≡ true = all-up-to k L (λ x h. (w.within x (ap (member x) whole ∙ h)).1) in
          rw (right, u, d)

      pub walked_all : (slots : ℕ) → slots ≡ k
          → ◌≡◌ {A = Option Traversal} (Some (record { slots = slots; count = count; last = last; marks = marks })) (traversal_of z s)
      unfolding traversal_of lead_to
      walked_all slots e =
          rw is-roll
          (λ d. Some (record {
            slots = e d;
            count = all-visited d;
            last = (w.end ∙ ap (at (0 ∷ L)) all-visited) d;
            marks = (w.links ∙ ap marked whole) d;
          }))

-- what is known of a roll, and of one with a checkpoint more
module _ (z : WordSize) (s : List ℕ) where
  abbrev pub known : Traversal
  known =
      record {
        slots = slot_count z (length s);
        count = length (links z s);
        last = lead_to z s (length (links z s));
        marks = marked (links z s);
      }

  pub record Known (y : Traversal) : Type 0 where
    pub is : is_roll z s ≡ true
    pub traversal : y ≡ known

  pub known-roll : {y : Traversal} → Some y ≡ traversal_of z s → Known y
  unfolding traversal_of
  known-roll {y} walked = go (is_roll z s) refl walked
    where
      go : (b : Bool) → is_roll z s ≡ b → Some y ≡ cond b (Some known) None → Known y
      go true e some = record { is = e; traversal = cc }
      go false e some = cc

module _ (z : WordSize) (ok : Octets z) (s : List ℕ) (is : is_roll z s ≡ true) where
  traversal-inserted : (c : Checkpoint) → Chain z c.chain → length (links z s) < slot_count z (length s)
      → ◌≡◌ {A = Option Traversal}
      (Some (record { slots = slot_count z (length s); count = length (links z s) + 1; last = taken z s; marks = set (marked (links z s)) (taken z s) 1 }))
      (traversal_of z (inserted z c s))
  unfolding traversal_of lead_to
  traversal-inserted c chain room =
      let i : ℕ = taken z s in
      let l : List ℕ = links z s in
      let e : links z (inserted z c s) ≡ l ++ i ∷ [] = inserted-links z ok s is room c chain in
      let more : length (l ++ i ∷ []) ≡ length l + 1 = length-append l (i ∷ []) in
      let le : i ≤ most_slots = omega (arith, (taken-within z ok s is room c chain).1, (sized z s (linked z s is).right).most) in
      rw (inserted-roll z ok s is room c chain, e, inserted-size z ok s is room c chain, more)
      (λ d. Some (record {
        slots = slot_count z (length s);
        count = length l + 1;
        last = sym (ap (at (0 ∷ l ++ i ∷ [])) (add-one (length l)) ∙ get_or_at l i [] 0 (length l) refl) d;
        marks = marked_more l i le d;
      }))

  pub traversal-more : (c : Checkpoint) → Chain z c.chain → length (links z s) < slot_count z (length s) → {y : Traversal} {i : ℕ} → y ≡ known z s → i ≡ taken z s
      → ◌≡◌ {A = Option Traversal} (Some (record { slots = y.slots; count = y.count + 1; last = i; marks = set y.marks i 1 })) (traversal_of z (inserted z c s))
  traversal-more c chain room {y} {i} is chosen =
      ap₂ (λ (x : Traversal) (j : ℕ). Some (record { slots = x.slots; count = x.count + 1; last = j; marks = set x.marks j 1 })) is chosen
      ∙ traversal-inserted c chain room

-- each slot on the walk leads to the next
pub lead-next : (z : WordSize) (s : List ℕ) → Linked z s → (m : ℕ) → m < length (links z s) → next_index z s (lead_to z s m) ≡ lead_to z s (m + 1)
unfolding lead_to links
lead-next z s h zero lt = visited-first (next_index z s) (suc (slot_count z (length s))) (next_index z s 0) (omega arith)
lead-next z s h (suc m) lt =
    visited-next (next_index z s) (suc (slot_count z (length s))) (next_index z s 0) m (omega arith) (omega (arith, h.few))
    ∙ ap (at (0 ∷ links z s)) (sym (add-one (suc m)))

-- What a roll shows after a checkpoint was inserted, and after links were taken off. Of the slot taken only what holds of a free choice is used.
-- Assumes nothing.
use mathlib.Core.Path.{◌≡◌, refl, sym, ap, ap₂, ◌∙◌, subst}
use mathlib.Core.Bool.{Bool, true, false, cond}
use mathlib.Core.Logic.{⊎_elim}
use mathlib.Core.List.{List, [], ◌∷◌, ◌++◌, append-nil, append_assoc}
use Prim.Native.Nat.{ℕ, zero, suc, ◌+◌, ◌*◌, ◌/◌, ◌≤◌, ◌<◌, min}
use native.Mathlib.Nat.{le_refl}
use native.Mathlib.Decide.{dec_lt}
use native.Mathlib.Omega.{arith}
use lib.Dec.{eqb, ltb}
use lib.ListN.{length, take, length-append, length-map}
use lib.Seq.{take_all, take-length}
use borrow.Author.Tests.{eqb-false, ltb-true, ltb-false, le-ltb}
use Rattle.lsh.specs.Tabulate.{at}
use Rattle.lsh.specs.WordSize.{WordSize}
use Rattle.lsh.specs.Block.{Chain}
use Rattle.lsh.proofs.Tests.{or-false, is_false}
use Rattle.lsh.proofs.Bytes.{Octets}
use Rattle.lists.proofs.Repeats.{one-there, one-take, one-snoc, repeats-take, repeats-snoc}
use Rattle.checkpoints.specs.Due.{Checkpoint, checkpoints_at, numbers_of, spacing, multiples_after}
use Rattle.checkpoints.specs.Slots.{slot_count, is_roll_length, slot_at}
use Rattle.checkpoints.specs.Members.{member, repeats}
use Rattle.checkpoints.specs.Roll.{next_index, links, chain_in, checkpoints_in, shown, is_roll}
use Rattle.checkpoints.specs.FreeSlot.{Unlinked, FreeChoice}
use Rattle.checkpoints.specs.Checkpoints.{with_index, with_slot, lead_to, taken, inserted, inserted_all, unlinked, cut_to}
use Rattle.checkpoints.proofs.Due.{multiples-many, first-up-to}
use Rattle.checkpoints.proofs.Members.{eqb-equivalence, apart, member-here, member-cases, member-at, free-choice}
use Rattle.checkpoints.proofs.Traversals.{Leads, relinked}
use Rattle.checkpoints.proofs.Writes.{index-size, next-is, next-other, chain-kept, slot-size, slot_next, slot-next-other, slot-chain, slot-chain-other, slot_kept, slot-kept-other}
use Rattle.checkpoints.proofs.Form.{Sized, sized, Linked, linked, links-are, is-roll}

-- the checkpoints in slots whose chains are the same, and in parts of a list of slots
in-same : (z : WordSize) (s u : List ℕ) (k : ℕ) (l : List ℕ) → ((x : ℕ) → member x l ≡ true → chain_in z s x ≡ chain_in z u x) → checkpoints_in z s k l ≡ checkpoints_in z u k l
in-same z s u k [] h = refl
in-same z s u k (x ∷ l) h =
    ap₂ (λ (t : List ℕ) (cs : List Checkpoint). record { number = spacing * k; chain = t } ∷ cs) (h x (member-here x l))
    (in-same z s u (suc k) l (λ y e. h y (one-there eqb y x l e)))

in-snoc : (z : WordSize) (s : List ℕ) (k : ℕ) (l : List ℕ) (x n : ℕ) → n ≡ spacing * (k + length l)
    → checkpoints_in z s k (l ++ x ∷ []) ≡ checkpoints_in z s k l ++ record { number = n; chain = chain_in z s x } ∷ []
in-snoc z s k [] x n is = ap (λ (m : ℕ). record { number = m; chain = chain_in z s x } ∷ []) (omega arith)
in-snoc z s k (y ∷ l) x n is = ap (λ (cs : List Checkpoint). record { number = spacing * k; chain = chain_in z s y } ∷ cs) (in-snoc z s (suc k) l x n (omega arith))

in_take : (z : WordSize) (s : List ℕ) (k m : ℕ) (l : List ℕ) → checkpoints_in z s k (take m l) ≡ take m (checkpoints_in z s k l)
in_take z s k zero l = refl
in_take z s k (suc m) [] = refl
in_take z s k (suc m) (x ∷ l) = ap (λ (cs : List Checkpoint). record { number = spacing * k; chain = chain_in z s x } ∷ cs) (in_take z s (suc k) m l)

-- their numbers
in-numbers : (z : WordSize) (s : List ℕ) (k : ℕ) (l : List ℕ) → numbers_of (checkpoints_in z s (suc k) l) ≡ multiples_after k (length l)
in-numbers z s k [] = refl
in-numbers z s k (x ∷ l) = ap (λ (r : List ℕ). spacing * suc k ∷ r) (in-numbers z s (suc k) l)

shown-numbers : (z : WordSize) (s : List ℕ) → numbers_of (shown z s) ≡ multiples_after 0 (length (links z s))
unfolding shown
shown-numbers z s = in-numbers z s 0 (links z s)

-- a checkpoint for each link
pub shown-many : (z : WordSize) (s : List ℕ) → length (shown z s) ≡ length (links z s)
shown-many z s =
    sym (length-map (shown z s) (λ c. c.number)) ∙ ap length (shown-numbers z s) ∙ multiples-many 0 (length (links z s))

-- those up to k are the first k / 64
pub cut-is : (z : WordSize) (s : List ℕ) (k : ℕ) → unlinked z (k / spacing) s ≡ cut_to z k s
unfolding cut_to unlinked
cut-is z s k = rw (shown-numbers z s, first-up-to k (length (links z s))) (go (dec_lt (k / spacing) (length (links z s))))
  where
    go : Dec (k / spacing < length (links z s)) → unlinked z (k / spacing) s ≡ unlinked z (min (k / spacing) (length (links z s))) s
    go (yes less) = let few : k / spacing ≡ min (k / spacing) (length (links z s)) = omega arith in ap (λ (m : ℕ). unlinked z m s) few
    go (no more) =
        let m : ℕ = min (k / spacing) (length (links z s)) in
        rw (le-ltb (k / spacing) (length (links z s)) (omega arith), le-ltb m (length (links z s)) (omega arith))

module _ (z : WordSize) (ok : Octets z) (s : List ℕ) (is : is_roll z s ≡ true) where
  abbrev L : List ℕ
  L = links z s

  abbrev k : ℕ
  k = slot_count z (length s)

  have : Linked z s
  have = linked z s is

  sizes : Sized z s
  sizes = sized z s have.right

  head_apart : member 0 L ≡ false
  head_apart = is_false (member 0 L) (λ e. omega (arith, (have.within 0 e).0))

  from-head : repeats (0 ∷ L) ≡ false
  from-head = rw head_apart have.distinct

  -- the head and the links are among the places of indexes
  lead-member : (m : ℕ) → m ≤ length L → member (at (0 ∷ L) m) (0 ∷ L) ≡ true
  lead-member m le = member-at (0 ∷ L) m (omega arith)

  lead-within : (q : ℕ) → member q (0 ∷ L) ≡ true → q ≤ k
  lead-within q h = ⊎_elim (λ e. omega arith) (λ e. (have.within q e).1) (member-cases q 0 L h)

  pub lead-in : (m : ℕ) → m ≤ length L → lead_to z s m ≤ k
  unfolding lead_to
  lead-in m le = lead-within (at (0 ∷ L) m) (lead-member m le)

  -- a checkpoint inserted
  module _ (room : length L < k) (c : Checkpoint) (chain : Chain z c.chain) where
    abbrev t : List ℕ
    t = c.chain

    abbrev i : ℕ
    i = taken z s

    free : Unlinked k L i
    unfolding taken FreeChoice
    free = free-choice k L room

    pub taken-within : (0 < i) × (i ≤ k)
    taken-within = (free.some, free.within)

    abbrev last : ℕ
    last = at (0 ∷ L) (length L)

    last_within : last ≤ k
    last_within = lead-within last (lead-member (length L) (le_refl (length L)))

    abbrev S : List ℕ
    S = with_slot z s i t

    written : length S ≡ length s
    written = slot-size z ok k s sizes.size i free.within free.some t chain

    abbrev U : List ℕ
    U = with_index z S last i

    inserted-is : inserted z c s ≡ U
    unfolding inserted lead_to
    inserted-is = refl

    inserted-length : length U ≡ length s
    inserted-length = index-size z ok k S (written ∙ sizes.size) last last_within i ∙ written

    -- the slot taken is none of those on the walk
    unlike : (q : ℕ) → member q (0 ∷ L) ≡ true → q ≡ i → ⊥
    unlike q h e =
        ⊎_elim (λ zero_is. let p : 0 < i = free.some in absurd (omega arith)) (λ m. apart q i L m free.free e) (member-cases q 0 L h)

    last-unlike : i ≡ last → ⊥
    last-unlike e = unlike last (lead-member (length L) (le_refl (length L))) (sym e)

    next-kept : (q : ℕ) → member q (0 ∷ L) ≡ true → (q ≡ last → ⊥) → next_index z U q ≡ next_index z s q
    next-kept q h other =
        next-other z ok k S (written ∙ sizes.size) last last_within i q other
        ∙ slot-next-other z ok k s sizes.size i free.within free.some t chain q (unlike q h)

    next_last : next_index z U last ≡ i
    next_last = next-is z ok k S (written ∙ sizes.size) last last_within i (omega (arith, free.within, sizes.most))

    next-taken : next_index z U i ≡ 0
    next-taken =
        next-other z ok k S (written ∙ sizes.size) last last_within i i last-unlike
        ∙ slot_next z ok k s sizes.size i free.within free.some t chain

    inserted-traversal : Leads (next_index z U) (next_index z U 0) (L ++ i ∷ [])
    inserted-traversal =
        subst (λ (l : List ℕ). Leads (next_index z U) (next_index z U 0) (l ++ i ∷ [])) (take-length L)
        (relinked (next_index z s) (next_index z U) L (length L) 0 i (i ∷ []) have.traversal from-head (le_refl (length L)) next-kept next_last
        (refl, (λ e. let p : 0 < i = free.some in absurd (omega arith)), next-taken))

    inserted-distinct : repeats (L ++ i ∷ []) ≡ false
    inserted-distinct = repeats-snoc eqb eqb-equivalence i L have.distinct free.free

    inserted-within : (x : ℕ) → member x (L ++ i ∷ []) ≡ true → (0 < x) × (x ≤ slot_count z (length U))
    inserted-within x h =
        rw inserted-length
        (⊎_elim (λ e. subst (λ (n : ℕ). (0 < n) × (n ≤ k)) (sym e) (free.some, free.within)) (have.within x)
        (member-cases x i L (sym (one-snoc eqb x i L) ∙ h)))

    inserted-right : is_roll_length z (length U) ≡ true
    inserted-right = ap (is_roll_length z) inserted-length ∙ have.right

    pub inserted-size : length (inserted z c s) ≡ length s
    inserted-size = ap length inserted-is ∙ inserted-length

    pub inserted-links : links z (inserted z c s) ≡ L ++ i ∷ []
    inserted-links = ap (links z) inserted-is ∙ links-are z U (L ++ i ∷ []) inserted-right inserted-traversal inserted-distinct inserted-within

    pub inserted-roll : is_roll z (inserted z c s) ≡ true
    inserted-roll = ap (is_roll z) inserted-is ∙ is-roll z U (L ++ i ∷ []) inserted-right inserted-traversal inserted-distinct inserted-within

    chain-stays : (x : ℕ) → member x L ≡ true → chain_in z U x ≡ chain_in z s x
    chain-stays x h =
        chain-kept z ok k S (written ∙ sizes.size) last last_within i x (have.within x h).0
        ∙ slot-chain-other z ok k s sizes.size i free.within free.some t chain x (have.within x h).0 (λ e. apart x i L h free.free e)

    chain-new : chain_in z U i ≡ t
    chain-new =
        chain-kept z ok k S (written ∙ sizes.size) last last_within i i free.some
        ∙ slot-chain z ok k s sizes.size i free.within free.some t chain

    -- it is shown behind the others, if it has the number of the next
    inserted-shown : c.number ≡ spacing * suc (length L) → shown z (inserted z c s) ≡ shown z s ++ c ∷ []
    unfolding shown
    inserted-shown next =
        ap₂ (λ (u : List ℕ) (l : List ℕ). checkpoints_in z u 1 l) inserted-is inserted-links
        ∙ in-snoc z U 1 L i c.number (omega arith)
        ∙ ap₂ (λ (cs : List Checkpoint) (x : List ℕ). cs ++ record { number = c.number; chain = x } ∷ []) (in-same z U s 1 L chain-stays) chain-new

    -- every other slot that was not linked keeps its bytes
    inserted-untaken : (j : ℕ) → 0 < j → member j (links z (inserted z c s)) ≡ false → slot_at z (inserted z c s) j ≡ slot_at z s j
    inserted-untaken j some unlinked-after =
        let p : (eqb j i ≡ false) × (member j L ≡ false) =
        or-false (eqb j i) (member j L) (sym (ap (member j) inserted-links ∙ one-snoc eqb j i L) ∙ unlinked-after) in
        let other : j ≡ i → ⊥ = eqb-false j i p.0 in
        let not_last : j ≡ last → ⊥ =
        λ e. ⊎_elim (λ zero_is. omega arith) (λ m. apart last j L m p.1 (sym e)) (member-cases last 0 L (lead-member (length L) (le_refl (length L)))) in
        ap (λ (u : List ℕ). slot_at z u j) inserted-is
        ∙ slot_kept z ok k S (written ∙ sizes.size) last last_within i j some not_last
        ∙ slot-kept-other z ok k s sizes.size i free.within free.some t chain j some other

  -- links taken off
  module _ (m : ℕ) where
    module _ (less : m < length L) where
      abbrev at-m : ℕ
      at-m = at (0 ∷ L) m

      m-within : at-m ≤ k
      m-within = lead-within at-m (lead-member m (omega arith))

      abbrev C : List ℕ
      C = with_index z s at-m 0

      cut-length : length C ≡ length s
      cut-length = index-size z ok k s sizes.size at-m m-within 0

      cut-traversal : Leads (next_index z C) (next_index z C 0) (take m L)
      cut-traversal =
          subst (λ (l : List ℕ). Leads (next_index z C) (next_index z C 0) l) (append-nil (take m L))
          (relinked (next_index z s) (next_index z C) L m 0 0 [] have.traversal from-head (omega arith)
          (λ q h other. next-other z ok k s sizes.size at-m m-within 0 q other)
          (next-is z ok k s sizes.size at-m m-within 0 (omega arith)) refl)

      cut_right : is_roll_length z (length C) ≡ true
      cut_right = ap (is_roll_length z) cut-length ∙ have.right

      cut-within : (x : ℕ) → member x (take m L) ≡ true → (0 < x) × (x ≤ slot_count z (length C))
      cut-within x h = rw cut-length (have.within x (one-take eqb x m L h))

      cut-links : links z C ≡ take m L
      cut-links = links-are z C (take m L) cut_right cut-traversal (repeats-take eqb m L have.distinct) cut-within

      cut-roll : is_roll z C ≡ true
      cut-roll = is-roll z C (take m L) cut_right cut-traversal (repeats-take eqb m L have.distinct) cut-within

      cut-chains : (j : ℕ) → 0 < j → chain_in z C j ≡ chain_in z s j
      cut-chains = chain-kept z ok k s sizes.size at-m m-within 0

      cut-shown : shown z C ≡ take m (shown z s)
      unfolding shown
      cut-shown =
          ap (checkpoints_in z C 1) cut-links
          ∙ in-same z C s 1 (take m L) (λ x h. cut-chains x (have.within x (one-take eqb x m L h)).0)
          ∙ in_take z s 1 m L

    -- a roll of the same length, that shows the first m checkpoints, and whose slots, linked or not, keep their chains
    pub record Cut (u : List ℕ) : Type 0 where
      pub size : length u ≡ length s
      pub roll : is_roll z u ≡ true
      pub shows : shown z u ≡ take m (shown z s)
      pub chains : (j : ℕ) → 0 < j → chain_in z u j ≡ chain_in z s j

    pub unlinked-cut : Cut (unlinked z m s)
    unfolding unlinked lead_to
    unlinked-cut = go (ltb m (length L)) refl
      where
        go : (b : Bool) → ltb m (length L) ≡ b → Cut (cond b (with_index z s (at (0 ∷ L) m) 0) s)
        go true e =
            let less : m < length L = ltb-true m (length L) e in
            record { size = cut-length less; roll = cut-roll less; shows = cut-shown less; chains = cut-chains less }
        go false e =
            record {
              size = refl;
              roll = is;
              shows = sym (take_all m (shown z s) (omega (arith, shown-many z s, ltb-false m (length L) e)));
              chains = λ j some. refl;
            }

-- d checkpoints inserted one after the other behind m links, with the chains f
module _ (z : WordSize) (ok : Octets z) (f : ℕ → List ℕ) (chains : (j : ℕ) → Chain z (f j)) where
  pub record Inserted (s : List ℕ) (numbers : List ℕ) (u : List ℕ) : Type 0 where
    pub size : length u ≡ length s
    pub roll : is_roll z u ≡ true
    pub shows : shown z u ≡ shown z s ++ checkpoints_at f numbers
    pub untaken : (j : ℕ) → 0 < j → member j (links z u) ≡ false → (member j (links z s) ≡ false) × (slot_at z u j ≡ slot_at z s j)

  pub inserted-all : (d m : ℕ) (s : List ℕ) → is_roll z s ≡ true → length (links z s) ≡ m → m + d ≤ slot_count z (length s)
      → Inserted s (multiples_after m d) (inserted_all z (checkpoints_at f (multiples_after m d)) s)
  inserted-all zero m s is many room =
      record { size = refl; roll = is; shows = sym (append-nil (shown z s)); untaken = λ j some free. (free, refl) }
  inserted-all (suc d) m s is many room =
      let left : length (links z s) < slot_count z (length s) = omega arith in
      let c : Checkpoint = record { number = spacing * suc m; chain = f (spacing * suc m) } in
      let ct : Chain z c.chain = chains (spacing * suc m) in
      let u : List ℕ = inserted z c s in
      let same : length u ≡ length s = inserted-size z ok s is left c ct in
      let more : length (links z u) ≡ suc m = ap length (inserted-links z ok s is left c ct) ∙ length-append (links z s) _ ∙ omega arith in
      let rest = inserted-all d (suc m) u (inserted-roll z ok s is left c ct) more (rw same (omega arith)) in
      record {
        size = rest.size ∙ same;
        roll = rest.roll;
        shows =
            rest.shows
            ∙ ap (λ (cs : List Checkpoint). cs ++ checkpoints_at f (multiples_after (suc m) d)) (inserted-shown z ok s is left c ct (ap (λ (n : ℕ). spacing * suc n) (sym many)))
            ∙ append_assoc (shown z s) (c ∷ []) (checkpoints_at f (multiples_after (suc m) d));
        untaken = λ j some free.
            let r = rest.untaken j some free in
            let p = or-false (eqb j (taken z s)) (member j (links z s))
            (sym (ap (member j) (inserted-links z ok s is left c ct) ∙ one-snoc eqb j (taken z s) (links z s)) ∙ r.0) in
            (p.1, r.1 ∙ inserted-untaken z ok s is left c ct j some r.0);
      }

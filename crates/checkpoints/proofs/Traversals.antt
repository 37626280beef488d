-- Ways from slot to slot, where next leads from each: a walk that ends is what is visited on it, and what becomes of it where one slot leads elsewhere.
-- Assumes nothing.
use mathlib.Core.Path.{◌≡◌, refl, sym, ap₂, ◌∙◌, subst}
use mathlib.Core.Bool.{true, false, false≢true}
use mathlib.Core.Logic.{⊎_elim}
use mathlib.Core.List.{List, [], ◌∷◌, ◌++◌}
use Prim.Native.Nat.{ℕ, zero, suc, ◌≤◌, ◌<◌}
use native.Mathlib.Decide.{ℕ_discrete}
use native.Mathlib.Omega.{arith}
use lib.Dec.{eqb}
use lib.ListN.{length, take}
use borrow.Author.Tests.{eq-eqb, ne_eqb}
use Rattle.lsh.specs.Tabulate.{at}
use Rattle.lists.proofs.Repeats.{one-there, repeats-parts}
use Rattle.checkpoints.specs.Members.{member, repeats}
use Rattle.checkpoints.specs.Roll.{visited}
use Rattle.checkpoints.proofs.Members.{member-here, member-cases, member-at, apart}

-- from index i the slots l are visited, and then the walk ends
abbrev pub Leads : (ℕ → ℕ) → ℕ → List ℕ → Type 0
Leads next i [] = i ≡ 0
Leads next i (x ∷ l) = (x ≡ i) × (i ≡ 0 → ⊥) × Leads next (next i) l

module _ (next : ℕ → ℕ) where
  pub visited-leads : (l : List ℕ) (n i : ℕ) → Leads next i l → length l ≤ n → visited next n i ≡ l
  visited-leads [] zero i h le = refl
  visited-leads [] (suc n) i h le = rw (eq-eqb i 0 h)
  visited-leads (x ∷ l) zero i h le = absurd (omega arith)
  visited-leads (x ∷ l) (suc n) i h le =
      rw (ne_eqb i 0 h.1) (ap₂ (λ (y : ℕ) (m : List ℕ). y ∷ m) (sym h.0) (visited-leads l n (next i) h.2 (omega arith)))

  -- a walk on which fewer than n are visited has ended
  pub leads-visited : (n i : ℕ) → length (visited next n i) < n → Leads next i (visited next n i)
  leads-visited zero i h = absurd (omega arith)
  leads-visited (suc n) i h = go (ℕ_discrete i 0) (leads-visited n (next i))
    where
      go : Dec (i ≡ 0) → (length (visited next n (next i)) < n → Leads next (next i) (visited next n (next i))) → Leads next i (visited next (suc n) i)
      go (yes e) rest = rw (eq-eqb i 0 e) e
      go (no ne) rest =
          let less : suc (length (visited next n (next i))) < suc n = rw (ne_eqb i 0 ne) at h in
          rw (ne_eqb i 0 ne) (refl, ne, rest (omega arith))

  -- index 0 is not visited
  pub visited-some : (n i x : ℕ) → member x (visited next n i) ≡ true → 0 < x
  visited-some zero i x h = absurd (false≢true h)
  visited-some (suc n) i x h = go (ℕ_discrete i 0) (visited-some n (next i) x)
    where
      go : Dec (i ≡ 0) → (member x (visited next n (next i)) ≡ true → 0 < x) → 0 < x
      go (yes e) rest =
          let none : member x [] ≡ true = rw (eq-eqb i 0 e) at h in
          absurd (false≢true none)
      go (no ne) rest =
          let one : member x (i ∷ visited next n (next i)) ≡ true = rw (ne_eqb i 0 ne) at h in
          ⊎_elim (λ same. omega arith) rest (member-cases x i (visited next n (next i)) one)

  pub visited-first : (n i : ℕ) → 0 < n → i ≡ at (visited next n i) 0
  visited-first zero i h = absurd (omega arith)
  visited-first (suc n) i h = go (ℕ_discrete i 0)
    where
      go : Dec (i ≡ 0) → i ≡ at (visited next (suc n) i) 0
      go (yes e) = rw (eq-eqb i 0 e) e
      go (no ne) = rw (ne_eqb i 0 ne)

  -- each slot visited leads to the one after it, and the last one to 0
  pub visited-next : (n i m : ℕ) → m < length (visited next n i) → suc m < n → next (at (visited next n i) m) ≡ at (visited next n i) (suc m)
  visited-next zero i m h lt = absurd (omega arith)
  visited-next (suc n) i m h lt = go (ℕ_discrete i 0) m h lt (visited-next n (next i))
    where
      go : Dec (i ≡ 0) → (m : ℕ) → m < length (visited next (suc n) i) → suc m < suc n
          → ((j : ℕ) → j < length (visited next n (next i)) → suc j < n → next (at (visited next n (next i)) j) ≡ at (visited next n (next i)) (suc j))
          → next (at (visited next (suc n) i) m) ≡ at (visited next (suc n) i) (suc m)
      go (yes e) m h lt rest =
          let none : m < 0 = rw (eq-eqb i 0 e) at h in
          absurd (omega arith)
      go (no ne) zero h lt rest = rw (ne_eqb i 0 ne) (visited-first n (next i) (omega arith))
      go (no ne) (suc m) h lt rest =
          let less : suc m < suc (length (visited next n (next i))) = rw (ne_eqb i 0 ne) at h in
          rw (ne_eqb i 0 ne) (rest m (omega arith) (omega arith))

-- the m-th slot from p on leads to j instead, and every other of them leads where it led
pub relinked : (next other : ℕ → ℕ) (l : List ℕ) (m p j : ℕ) (after : List ℕ)
    → Leads next (next p) l → repeats (p ∷ l) ≡ false → m ≤ length l
    → ((q : ℕ) → member q (p ∷ l) ≡ true → (q ≡ at (p ∷ l) m → ⊥) → other q ≡ next q)
    → other (at (p ∷ l) m) ≡ j → Leads other j after
    → Leads other (other p) (take m l ++ after)
relinked next other l zero p j after traversal distinct le same changed rest = subst (λ (i : ℕ). Leads other i after) (sym changed) rest
relinked next other [] (suc m) p j after traversal distinct le same changed rest = absurd (omega arith)
relinked next other (x ∷ l) (suc m) p j after traversal distinct le same changed rest =
    let parts : (member p (x ∷ l) ≡ false) × (repeats (x ∷ l) ≡ false) = repeats-parts eqb p (x ∷ l) distinct in
    let unlike : p ≡ at (x ∷ l) m → ⊥ = λ e. apart (at (x ∷ l) m) p (x ∷ l) (member-at (x ∷ l) m (omega arith)) parts.0 (sym e) in
    let here : other p ≡ x = same p (member-here p (x ∷ l)) unlike ∙ sym traversal.0 in
    let on : Leads next (next x) l = subst (λ (i : ℕ). Leads next (next i) l) (sym traversal.0) traversal.2 in (
      sym here,
      λ none. traversal.1 (sym traversal.0 ∙ sym here ∙ none),
      subst (λ (i : ℕ). Leads other (other i) (take m l ++ after)) (sym here)
          (relinked next other l m x j after on parts.1 (omega arith) (λ q h. same q (one-there eqb q p (x ∷ l) h)) changed rest),
    )

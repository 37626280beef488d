-- The counts of Tally do not depend on the order of the receipts, and firsts is how many different ones there are, blanks set aside.
-- Assumes nothing.
use mathlib.Core.Path.{◌≡◌, sym, ap, ◌∙◌}
use mathlib.Core.List.{List}
use Prim.Native.Nat.{ℕ, ◌≤◌}
use native.Mathlib.Omega.{arith}
use lib.Dec.{eqb}
use lib.ListN.{length}
use Rattle.lists.specs.Choice.{EachAsOften, IsChoice}
use Rattle.lists.proofs.Counting.{IsEquivalence, Respects, as_many, as_long}
use Rattle.lists.proofs.Different.{those, length-those, most, new-choice, as-many-new}
use Rattle.receipts.specs.Same.{same_receipt}
use Rattle.receipts.proofs.Agreement.{same_self, same_alike, same_parts}
use Rattle.receipts.specs.declared.Counts.{Counts}
use Rattle.receipts.specs.Kinds.{is_blank, came_before, is_first, firsts, reprints, blanks}
use Rattle.receipts.specs.Tally.{receipts_of, counted, tally_call}
use Rattle.receipts.proofs.Counting.{all-counted}
use Rattle.receipts.proofs.TallyAnswers.{accepted}

same-equivalence : IsEquivalence same_receipt
same-equivalence = record { self = same_self; alike = same_alike }

blank-respects : Respects same_receipt is_blank
unfolding is_blank
blank-respects a b e = ap (λ (k : ℕ). eqb k 0) (same_parts a b e).3

module _ (rs ts : List (List ℕ)) (each : EachAsOften same_receipt rs ts) where
  firsts-alike : firsts rs ≡ firsts ts
  unfolding firsts is_first came_before
  firsts-alike = as-many-new same-equivalence is_blank blank-respects rs ts each

  blanks-alike : blanks rs ≡ blanks ts
  unfolding blanks
  blanks-alike = as_many same-equivalence is_blank blank-respects rs ts each

  reprints-alike : reprints rs ≡ reprints ts
  reprints-alike = omega (arith, all-counted rs, all-counted ts, as_long same-equivalence rs ts each, firsts-alike, blanks-alike)

  counted-alike : counted rs ≡ counted ts
  unfolding counted
  counted-alike = λ k. record { number = 0; place = 0; firsts = firsts-alike k; reprints = reprints-alike k; blanks = blanks-alike k }

-- two accepted lists that hold the same receipts, each as often, have the same three counts
pub any_order : (s t : List ℕ) → (tally_call s).number ≡ 0 → (tally_call t).number ≡ 0 → EachAsOften same_receipt (receipts_of s) (receipts_of t)
    → tally_call s ≡ tally_call t
any_order s t taken-s taken-t each = accepted s taken-s ∙ counted-alike (receipts_of s) (receipts_of t) each ∙ sym (accepted t taken-t)

module _ (s : List ℕ) (taken : (tally_call s).number ≡ 0) where
  firsts-are : (tally_call s).firsts ≡ firsts (receipts_of s)
  unfolding counted
  firsts-are = ap (λ (c : Counts). c.firsts) (accepted s taken)

  -- a choice of pairwise different receipts of an accepted list, none of them blank, has at most firsts of them
  pub most-different : (choice : List (List ℕ)) → IsChoice same_receipt is_blank (receipts_of s) choice → length choice ≤ (tally_call s).firsts
  unfolding firsts is_first came_before
  most-different choice is = omega (arith, firsts-are, most same-equivalence is_blank blank-respects (receipts_of s) choice is)

  -- and some choice has so many
  pub some-different : (choice : List (List ℕ)) × IsChoice same_receipt is_blank (receipts_of s) choice × (length choice ≡ (tally_call s).firsts)
  unfolding firsts is_first came_before
  some-different =
      (those is_first (receipts_of s), new-choice same-equivalence is_blank blank-respects (receipts_of s), length-those is_first (receipts_of s) ∙ sym firsts-are)

-- The answer of Tally to a list of right length, and to one that it accepts.
-- Assumes nothing.
use mathlib.Core.Path.{◌≡◌, refl}
use mathlib.Core.Bool.{Bool, cond}
use mathlib.Core.List.{List, [], ◌∷◌}
use Prim.Native.Nat.{ℕ}
use lib.Dec.{ltb}
use Rattle.answers.proofs.Tests.{test, passed}
use Rattle.receipts.specs.declared.Counts.{Counts}
use Rattle.receipts.specs.Tally.{receipt_count, receipts_of, first_malformed, is_bad_length, refused_tally, counted, tally_call}

-- the answer by its two tests
abbrev pub answer : List ℕ → Bool → Bool → Counts
answer s bad malformed = cond bad (refused_tally 13 0) (cond malformed (refused_tally 14 (first_malformed s 0 (receipt_count s))) (counted (receipts_of s)))

-- a list that is accepted is counted
pub accepted : (s : List ℕ) → (tally_call s).number ≡ 0 → tally_call s ≡ counted (receipts_of s)
unfolding tally_call refused_tally
accepted s is =
    let bad = test (is_bad_length s) (refused_tally 13 0) in
    let malformed = test (ltb (first_malformed s 0 (receipt_count s)) (receipt_count s)) (refused_tally 14 (first_malformed s 0 (receipt_count s))) in
    (passed (λ (c : Counts). c.number) (bad ∷ malformed ∷ []) (counted (receipts_of s)) refl is).1

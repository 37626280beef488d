-- A begin and the hand-backs after it, each on the record that the one before returned, and the bytes that they handed back.
-- Assumes nothing.
use Rattle.std.specs.Prelude.{◌≡◌, cond, List, [], ◌∷◌, ◌++◌, ℕ, eqb}
use Rattle.orders.specs.declared.Record.{Record}
use Rattle.orders.specs.declared.Outcome.{Outcome}
use Rattle.orders.specs.Record.{refused}
use Rattle.orders.specs.Begin.{begin_call}
use Rattle.orders.specs.HandBack.{hand_back_call}

-- the record after hand-backs
abbrev pub after_blocks : Record → List (List ℕ) → Record
after_blocks r [] = r
after_blocks r (b ∷ bs) = after_blocks (hand_back_call r b).next bs

-- each of them is accepted
abbrev pub BlocksAccepted : Record → List (List ℕ) → Type 0
BlocksAccepted r [] = Unit {0}
BlocksAccepted r (b ∷ bs) = ((hand_back_call r b).number ≡ 0) × BlocksAccepted (hand_back_call r b).next bs

-- the record after a begin with the bytes h and hand-backs of the blocks bs
unfoldable pub after_steps : Record → List ℕ → List (List ℕ) → Record
after_steps r h bs = after_blocks (begin_call r h).next bs

-- all of these steps are accepted
unfoldable pub StepsAccepted : Record → List ℕ → List (List ℕ) → Type 0
StepsAccepted r h bs = ((begin_call r h).number ≡ 0) × BlocksAccepted (begin_call r h).next bs

-- what a call on the record x gives if it answers as another, whose outcome is o: a refusal returns x
unfoldable pub answered_on : Record → Outcome → Outcome
answered_on x o = cond (eqb o.number 0) o (refused o.number x)

-- their bytes as in the order: each block stands before what was handed back earlier
abbrev pub joined : List ℕ → List (List ℕ) → List ℕ
joined h [] = h
joined h (b ∷ bs) = joined (b ++ h) bs

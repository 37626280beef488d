-- Lists of calls, each made on what the one before left. S is what is kept between calls, C are the calls.
-- Assumes nothing.
use Rattle.std.specs.Prelude.{List, [], ◌∷◌, ℕ, ◌+◌}

-- the answer to a call: its number, and how many blocks were run
pub record Answer : Type 0 where
  pub number : ℕ
  pub count : ℕ

-- what a call gives: the answer, and what is kept for the next call
pub record Given (S : Type 0) : Type 0 where
  pub answer : Answer
  pub next : S

module _ {S C : Type 0} (call : S → C → Given S) where
  -- what is kept after a list of calls
  abbrev pub after : S → List C → S
  after s [] = s
  after s (c ∷ cs) = after (call s c).next cs

  -- the answers in order
  abbrev pub answers : S → List C → List Answer
  answers s [] = []
  answers s (c ∷ cs) = (call s c).answer ∷ answers (call s c).next cs

  -- P holds of each call and what it finds
  abbrev pub Throughout : (S → C → Type 0) → S → List C → Type 0
  Throughout P s [] = Unit {0}
  Throughout P s (c ∷ cs) = P s c × Throughout P (call s c).next cs

-- a sum over calls and their answers
abbrev pub sum : {C : Type 0} → (C → Answer → ℕ) → List C → List Answer → ℕ
sum f [] rest = 0
sum f (c ∷ cs) [] = 0
sum f (c ∷ cs) (a ∷ rest) = f c a + sum f cs rest

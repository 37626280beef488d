-- The numbers that the tape gives: by lengths, by how far a split rewind is, and by the slots of a roll.
-- Assumes nothing.
use Rattle.std.specs.Prelude.{Bool, true, false, ◌||◌, ◌&&◌, List, [], ◌∷◌, ℕ, eqb}
use Rattle.tape.specs.Sequence.{Answer}
use Rattle.tape.specs.Tape.{Lent, by_lent}

-- never 3, 8, 9 or 15; and 16 only where the order is lent a roll
unfoldable pub by_length : Lent → ℕ → Bool
by_length lent number = eqb number 0 || eqb number 5 || eqb number 6 || eqb number 7 || eqb number 17 || by_lent lent false (eqb number 16)

abbrev pub all_by_length : Lent → List Answer → Bool
all_by_length lent [] = true
all_by_length lent (a ∷ rest) = by_length lent a.number && all_by_length lent rest

-- Numbers in a list.
-- Assumes nothing.
use Rattle.std.specs.Prelude.{Bool, true, ◌&&◌, List, [], ◌∷◌, ℕ, eqb, leb}
use Rattle.lists.specs.Elements.{is_one_of, has_repeats}

-- x stands in the list
abbrev pub member : ℕ → List ℕ → Bool
member x l = is_one_of eqb x l

-- some number stands in it twice
abbrev pub repeats : List ℕ → Bool
repeats l = has_repeats eqb l

-- no number of it is above k
abbrev pub all_up_to : ℕ → List ℕ → Bool
all_up_to k [] = true
all_up_to k (x ∷ l) = leb x k && all_up_to k l

-- The words of a line: what stands between its spaces. A line with k spaces has k + 1 words, of which some may be empty.
-- Assumes nothing.
use Rattle.std.specs.Prelude.{cond, List, [], ◌∷◌, ℕ, zero, suc, ◌+◌, eqb, Option, Some, None}
use Rattle.lists.specs.Equal.{equal}

-- the bytes before the first that is the mark, all of them if none is
abbrev pub before : ℕ → List ℕ → List ℕ
before mark [] = []
before mark (x ∷ s) = cond (eqb x mark) [] (x ∷ before mark s)

-- how many spaces there are
abbrev pub spaces : List ℕ → ℕ
spaces [] = 0
spaces (x ∷ s) = cond (eqb x 32) (suc (spaces s)) (spaces s)

-- the bytes after the first k spaces, none if there are fewer
abbrev pub after_spaces : ℕ → List ℕ → List ℕ
after_spaces zero s = s
after_spaces (suc k) [] = []
after_spaces (suc k) (x ∷ s) = cond (eqb x 32) (after_spaces k s) (after_spaces (suc k) s)

-- word i, counted from 0
unfoldable pub word_at : ℕ → List ℕ → List ℕ
word_at i s = before 32 (after_spaces i s)

-- the place of the first of the k words from word i on that is this word
unfoldable pub place_from : List ℕ → List ℕ → ℕ → ℕ → Option ℕ
place_from s word i zero = None
place_from s word i (suc k) = cond (equal (word_at i s) word) (Some i) (place_from s word (suc i) k)

-- the place of a word among those of a line, if it is one of them
unfoldable pub place_of : List ℕ → List ℕ → Option ℕ
place_of s word = place_from s word 0 (spaces s + 1)

-- Elements of a list: whether one stands in it, how often, whether one stands in it twice, and how many pass a test. They are slots in W1 of document 02,
-- and receipts in W4 and W5.
-- Two elements are the same if a test says so that is given; they need not be equal.
-- Assumes nothing.
use Rattle.std.specs.Prelude.{Bool, false, cond, ◌||◌, List, [], ◌∷◌, ℕ, ◌+◌}

-- x is the same as one of these
abbrev pub is_one_of : {A : Type 0} → (A → A → Bool) → A → List A → Bool
is_one_of same x [] = false
is_one_of same x (y ∷ l) = same x y || is_one_of same x l

-- some element is the same as one behind it
abbrev pub has_repeats : {A : Type 0} → (A → A → Bool) → List A → Bool
has_repeats same [] = false
has_repeats same (x ∷ l) = is_one_of same x l || has_repeats same l

-- how many elements pass a test of the element and of those behind it
abbrev pub how_many : {A : Type 0} → (A → List A → Bool) → List A → ℕ
how_many test [] = 0
how_many test (x ∷ l) = cond (test x l) (how_many test l + 1) (how_many test l)

-- how often x stands in the list
abbrev pub how_often : {A : Type 0} → (A → A → Bool) → A → List A → ℕ
how_often same x l = how_many (λ y behind. same x y) l

-- Lists that have the same elements, and choices of different elements from a list (W5 of document 02).
-- Assumes nothing.
use Rattle.std.specs.Prelude.{◌≡◌, Bool, List, ◌≤◌, ◌<◌}
use Rattle.lists.specs.Elements.{how_many, how_often}

-- the two lists have the same elements, each as often
abbrev pub EachAsOften : {A : Type 0} → (A → A → Bool) → List A → List A → Type 0
EachAsOften {A} same l m = (x : A) → how_often same x l ≡ how_often same x m

-- a choice of pairwise different elements of l, where those of one kind are set aside
pub record IsChoice {A : Type 0} (same : A → A → Bool) (aside : A → Bool) (l choice : List A) : Type 0 where
  pub listed : (x : A) → 0 < how_often same x choice → 0 < how_often same x l
  pub different : (x : A) → how_often same x choice ≤ 1
  pub none_aside : how_many (λ x behind. aside x) choice ≡ 0

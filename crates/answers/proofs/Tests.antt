-- A call makes its tests in order, each with what it gives where the test stops it. A call that is accepted passed every test.
-- Assumes nothing.
use mathlib.Core.Path.{◌≡◌, refl, sym, ◌∙◌}
use mathlib.Core.Bool.{Bool, true, false, not, cond, ◌&&◌, false≢true}
use mathlib.Core.List.{List, [], ◌∷◌}
use Prim.Native.Nat.{ℕ, zero, suc}
use borrow.Author.Tests.{eq-eqb}
use lib.Dec.{eqb}

-- a test that stops the call, and what is given then: a number, or an outcome that has one
pub record Test (A : Type 0) : Type 0 where
  pub stops : Bool
  pub gives : A

abbrev pub test : {A : Type 0} → Bool → A → Test A
test stops gives = record { stops = stops; gives = gives }

-- what a call gives that makes these tests and gives a where it passes them
abbrev pub tested : {A : Type 0} → List (Test A) → A → A
tested [] a = a
tested (t ∷ ts) a = cond t.stops t.gives (tested ts a)

-- whether the test at place i stops the call; there is none past the end
abbrev pub stopped : {A : Type 0} → List (Test A) → ℕ → Bool
stopped [] i = false
stopped (t ∷ ts) zero = t.stops
stopped (t ∷ ts) (suc i) = stopped ts i

module _ {A : Type 0} (number : A → ℕ) where
  -- none of them gives the number 0
  abbrev pub refuse : List (Test A) → Bool
  refuse [] = true
  refuse (t ∷ ts) = not (eqb (number t.gives) 0) && refuse ts

  pub passed : (ts : List (Test A)) (a : A) → refuse ts ≡ true → number (tested ts a) ≡ 0 → ((i : ℕ) → stopped ts i ≡ false) × (tested ts a ≡ a)
  passed [] a e is = (λ i. refl, refl)
  passed (t ∷ ts) a e is = go t.stops (eqb (number t.gives) 0) refl refl e is (passed ts a)
    where
      go : (s z : Bool) → t.stops ≡ s → eqb (number t.gives) 0 ≡ z → not z && refuse ts ≡ true → number (cond s t.gives (tested ts a)) ≡ 0
          → (refuse ts ≡ true → number (tested ts a) ≡ 0 → ((i : ℕ) → stopped ts i ≡ false) × (tested ts a ≡ a))
          → ((i : ℕ) → stopped (t ∷ ts) i ≡ false) × (cond s t.gives (tested ts a) ≡ a)
      go false false by none rest is more = (each by (more rest is).0, (more rest is).1)
        where
          each : t.stops ≡ false → ((i : ℕ) → stopped ts i ≡ false) → (i : ℕ) → stopped (t ∷ ts) i ≡ false
          each first others zero = first
          each first others (suc i) = others i
      go true false by none rest is more = absurd (false≢true (sym none ∙ eq-eqb (number t.gives) 0 is))
      go s true by none rest is more = absurd (false≢true rest)

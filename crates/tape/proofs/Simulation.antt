-- Two machines take the same calls: the plain tape, and the calls of the module, which keep something else from call to call. What they keep need
-- not be a function of the tape: a buffer that the caller lends may have old bytes in the places that are not in use. So the induction goes over a
-- relation, Shows r s: what is kept, r, shows what is on the tape, s. Where each call on an r that shows s answers as the tape does, and leaves what
-- shows the tape that is left, every list of calls does.
-- What holds of the tape alone, whatever bytes are handed back, is said apart from that: where each call keeps Good, every list of calls does; and
-- where each call moves a sum as it moves its two counts, every list of calls does.
-- Assumes nothing.
use mathlib.Core.Path.{◌≡◌, refl}
use mathlib.Core.Bool.{Bool, true, false, cond}
use mathlib.Core.List.{List, [], ◌∷◌}
use Prim.Native.Nat.{ℕ, ◌+◌}
use native.Mathlib.Omega.{arith}
use Rattle.tape.specs.Sequence.{Answer, Given, after, answers, Throughout, sum}

-- one call: the same answer, and what is left shows the tape that is left
pub record Follows {S R : Type 0} (Shows : R → S → Type 0) (g : Given R) (t : Given S) : Type 0 where
  pub same : g.answer ≡ t.answer
  pub shows : Shows g.next t.next

-- a choice that both machines make by the same test
pub choose : {S R A : Type 0} {Shows : R → S → Type 0} (f : A → Given R) (t : Bool) {x y : A} {u v : Given S}
    → (t ≡ true → Follows Shows (f x) u) → (t ≡ false → Follows Shows (f y) v) → Follows Shows (f (cond t x y)) (cond t u v)
choose f true h k = h refl
choose f false h k = k refl

module _ {S C : Type 0} (tape : S → C → Given S) (Good : S → Type 0) (keeps : (s : S) (c : C) → Good s → Good (tape s c).next) where
  pub good-after : (cs : List C) (s : S) → Good s → Good (after tape s cs)
  good-after [] s good = good
  good-after (c ∷ cs) s good = good-after cs (tape s c).next (keeps s c good)

  module _ {R : Type 0} (call : R → C → Given R) (Premise : S → C → Type 0) where
    -- the induction
    module _
        (Shows : R → S → Type 0)
        (step : (r : R) (s : S) (c : C) → Shows r s → Good s → Premise s c → Follows Shows (call r c) (tape s c)) where
      pub calls-follow : (cs : List C) (r : R) (s : S) → Shows r s → Good s → Throughout tape Premise s cs
          → (answers call r cs ≡ answers tape s cs) × Shows (after call r cs) (after tape s cs)
      calls-follow [] r s shows good h = (refl, shows)
      calls-follow (c ∷ cs) r s shows good h =
          let first = step r s c shows good h.0 in
          let rest = calls-follow cs (call r c).next (tape s c).next first.shows (keeps s c good) h.1 in
          (λ i. first.same i ∷ rest.0 i, rest.1)

  module _
      (forward backward : C → Answer → ℕ)
      (whole : S → ℕ)
      (step : (s : S) (c : C) → Good s → forward c (tape s c).answer + whole s ≡ backward c (tape s c).answer + whole (tape s c).next) where
    pub counts : (cs : List C) (s : S) → Good s
        → sum forward cs (answers tape s cs) + whole s ≡ sum backward cs (answers tape s cs) + whole (after tape s cs)
    counts [] s good = refl
    counts (c ∷ cs) s good = omega (arith, step s c good, counts cs (tape s c).next (keeps s c good))

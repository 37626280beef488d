-- Lists tested number by number, and lists of zeros.
-- Assumes nothing.
use mathlib.Core.Path.{◌≡◌, refl, ap, ap₂, ◌∙◌}
use mathlib.Core.Bool.{true, ◌&&◌}
use mathlib.Core.List.{List, [], ◌∷◌, ◌++◌}
use Prim.Native.Nat.{ℕ, zero, suc, ◌+◌, ◌-◌, ◌≤◌, ◌<◌}
use native.Mathlib.Nat.{zero-add, le_refl}
use native.Mathlib.Omega.{arith}
use lib.Dec.{eqb, ltb}
use lib.ListN.{length, drop, replicate}
use lib.Seq.{drop-append-add, take_all, paste}
use borrow.Author.Tests.{eqb-true, ltb-true, lt-ltb}
use Rattle.lsh.specs.Tabulate.{at}
use Rattle.lsh.proofs.Tests.{and-true}
use Rattle.lists.proofs.Zeros.{drop-replicate}
use Rattle.lists.specs.Lists.{all_below, all_zero}
use Rattle.lists.specs.ZeroFilled.{zero_filled}

-- every place of a list whose test passes, and back
pub at-below : (m : ℕ) (s : List ℕ) → 0 < m → all_below m s ≡ true → (l : ℕ) → at s l < m
at-below m [] some e l = some
at-below m (x ∷ xs) some e zero = ltb-true x m (and-true (ltb x m) (all_below m xs) e).0
at-below m (x ∷ xs) some e (suc l) = at-below m xs some (and-true (ltb x m) (all_below m xs) e).1 l

pub all-below : (m : ℕ) (s : List ℕ) → ((l : ℕ) → at s l < m) → all_below m s ≡ true
all-below m [] h = refl
all-below m (x ∷ xs) h = rw (lt-ltb x m (h 0)) (all-below m xs (λ l. h (suc l)))

pub all-zero : (k : ℕ) → all_zero (replicate k 0) ≡ true
all-zero zero = refl
all-zero (suc k) = all-zero k

pub zero-all : (s : List ℕ) → all_zero s ≡ true → s ≡ replicate (length s) 0
zero-all [] e = refl
zero-all (x ∷ xs) e =
    let p : (eqb x 0 ≡ true) × (all_zero xs ≡ true) = and-true (eqb x 0) (all_zero xs) e in
    ap₂ (λ (y : ℕ) (ys : List ℕ). y ∷ ys) (eqb-true x 0 p.0) (zero-all xs p.1)

-- a string copied into zeros
pub into-zeros : (n : ℕ) (s : List ℕ) → paste (replicate n 0) 0 s (length s) ≡ s ++ replicate (n - length s) 0
into-zeros n s = rw (zero-add, take_all (length s) s (le_refl (length s)), drop-replicate (length s) n 0)

-- what fills a string is 0
pub filled_zero : (n : ℕ) (s : List ℕ) (k : ℕ) → length s ≤ k → all_zero (drop k (zero_filled n s)) ≡ true
filled_zero n s k le =
    let more : ℕ = k - length s in
    let sum : k ≡ length s + more = omega (arith, le) in
    ap (λ (i : ℕ). all_zero (drop i (zero_filled n s))) sum
    ∙ ap all_zero (drop-append-add s (replicate (n - length s) 0) more ∙ drop-replicate more (n - length s) 0)
    ∙ all-zero (n - length s - more)

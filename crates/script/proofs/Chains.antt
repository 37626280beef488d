-- The number of eight bytes, the highest first.
-- Assumes nothing.
use mathlib.Core.Path.{◌≡◌, ap, ◌∙◌}
use mathlib.Core.List.{List, []}
use Prim.Native.Nat.{ℕ, zero, suc, ◌+◌, ◌*◌, ◌/◌, ◌<◌}
use native.Mathlib.Nat.{not-suc-le-zero, le_of_suc-le-suc}
use native.Mathlib.Omega.{arith}
use lib.ListN.{length, get_or, drop}
use Rattle.std.proofs.Common.{w64}
use Rattle.std.specs.Int.{from_be_bytes}
use Rattle.std.specs.Simd.{first_chunks}
use Rattle.std.proofs.lemmas.List.{get_or-take, get_or-drop}
use Rattle.lsh.specs.Tabulate.{at}
use Rattle.script.specs.Numbers.{highest_first}

-- a list taken apart into chunks of eight: byte j of chunk i
chunk-at : (n : ℕ) (s : List ℕ) (i j : ℕ) → i < n → j < 8 → get_or (get_or (first_chunks 8 n s) i []) j 0 ≡ at s (8 * i + j)
chunk-at zero s i j h lt = absurd (not-suc-le-zero h)
chunk-at (suc n) s zero j h lt = get_or-take 8 s j 0 lt ∙ ap (at s) (omega arith)
chunk-at (suc n) s (suc i) j h lt =
    chunk-at n (drop 8 s) i j (le_of_suc-le-suc h) lt ∙ get_or-drop 8 s (8 * i + j) 0 ∙ ap (at s) (omega arith)

highest-of : (w s : List ℕ) (a : ℕ) → ((j : ℕ) → j < 8 → get_or w j 0 ≡ at s (a + j)) → from_be_bytes w64 w ≡ highest_first 8 s a
unfolding highest_first
highest-of w s a e =
    omega (arith, e 0 (omega arith), e 1 (omega arith), e 2 (omega arith), e 3 (omega arith), e 4 (omega arith), e 5 (omega arith), e 6 (omega arith), e 7 (omega arith))

pub word-is : (s : List ℕ) (words : List (List ℕ)) → words ≡ first_chunks 8 (length s / 8) s → (i : ℕ) → i < length s / 8
    → from_be_bytes w64 (get_or words i []) ≡ highest_first 8 s (8 * i)
word-is s words e i h = rw e (highest-of (get_or (first_chunks 8 (length s / 8) s) i []) s (8 * i) (λ j lt. chunk-at (length s / 8) s i j h lt))

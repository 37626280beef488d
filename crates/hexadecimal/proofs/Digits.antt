-- What digits say, and the bytes of a word.
-- Assumes nothing.
use mathlib.Core.Path.{◌≡◌, ap, ◌∙◌}
use mathlib.Core.Bool.{true}
use mathlib.Core.List.{List, [], ◌∷◌}
use Prim.Native.Nat.{ℕ, zero, suc, ◌+◌, ◌*◌, ◌/◌, ◌<◌}
use native.Mathlib.Nat.{add-zero, not-suc-le-zero, le_of_suc-le-suc}
use native.Mathlib.Omega.{arith}
use lib.ListN.{length, drop, get_or}
use Rattle.std.proofs.lemmas.List.{get_or-take, get_or-drop}
use Rattle.std.specs.Simd.{first_chunks}
use Rattle.lsh.specs.Tabulate.{at, tabulate}
use Rattle.lsh.proofs.Tabulate.{length-tabulate}
use Rattle.lsh.proofs.Tests.{and-true}
use Rattle.hexadecimal.specs.Hex.{is_hex_digit, all_hex, hex_value, byte_of}

-- hexadecimal digits

pub hex-at : (s : List ℕ) → all_hex s ≡ true → (i : ℕ) → i < length s → is_hex_digit (at s i) ≡ true
hex-at [] e i h = absurd (not-suc-le-zero h)
hex-at (c ∷ s) e zero h = (and-true (is_hex_digit c) (all_hex s) e).0
hex-at (c ∷ s) e (suc i) h = hex-at s (and-true (is_hex_digit c) (all_hex s) e).1 i (le_of_suc-le-suc h)

-- BYTES

pub length_bytes : (s : List ℕ) → length (tabulate (length s / 2) (byte_of s)) ≡ length s / 2
length_bytes s = length-tabulate (length s / 2) (byte_of s)

-- the two digits of a pair, where a word is taken apart into pairs

pair-digit : (n : ℕ) (s : List ℕ) (i j : ℕ) → i < n → j < 2 → get_or (get_or (first_chunks 2 n s) i []) j 0 ≡ at s (2 * i + j)
pair-digit zero s i j h lt = absurd (not-suc-le-zero h)
pair-digit (suc n) s zero j h lt = get_or-take 2 s j 0 lt ∙ ap (at s) (omega arith)
pair-digit (suc n) s (suc i) j h lt =
    pair-digit n (drop 2 s) i j (le_of_suc-le-suc h) lt ∙ get_or-drop 2 s (2 * i + j) 0 ∙ ap (at s) (omega arith)

module _ (s : List ℕ) (pairs : List (List ℕ)) (e : pairs ≡ first_chunks 2 (length s / 2) s) (i : ℕ) (h : i < length s / 2) where
  pub high-digit : get_or (get_or pairs i []) 0 0 ≡ at s (2 * i)
  high-digit = rw e (pair-digit (length s / 2) s i 0 h (omega arith) ∙ ap (at s) (add-zero (2 * i)))

  pub low-digit : get_or (get_or pairs i []) 1 0 ≡ at s (2 * i + 1)
  low-digit = rw e (pair-digit (length s / 2) s i 1 h (omega arith))

  pub byte-of-pair : 16 * hex_value (get_or (get_or pairs i []) 0 0) + hex_value (get_or (get_or pairs i []) 1 0) ≡ byte_of s i
  unfolding byte_of
  byte-of-pair = rw (high-digit, low-digit)

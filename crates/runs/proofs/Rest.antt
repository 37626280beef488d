-- What is left of a byte string from a place on, and after its whole blocks.
-- Assumes nothing.
use mathlib.Core.Path.{◌≡◌, ap, ap₂, ◌∙◌}
use mathlib.Core.List.{List}
use Prim.Native.Nat.{ℕ, ◌-◌, ◌*◌, ◌/◌, ◌%◌, ◌≤◌, ◌<◌}
use native.Mathlib.Nat.{mod-lt, div-add-mod', le_of_eq}
use native.Mathlib.Omega.{arith}
use lib.ListN.{length, take, drop, length-drop}
use lib.Seq.{take_all}
use Rattle.lsh.specs.WordSize.{size_of, block_bytes}
use Rattle.lsh.specs.Padding.{rest_of}
use Rattle.lsh.proofs.Figures.{block-some}
use Rattle.lsh.proofs.Padding.{length_rest}

-- `&s[k..]`
pub from_place : (s : List ℕ) (k : ℕ) → take (length s - k) (drop k s) ≡ drop k s
from_place s k = take_all (length s - k) (drop k s) (le_of_eq (length-drop k s))

-- k whole blocks of b bytes each
module _ (w : ℕ) (s : List ℕ) {k b : ℕ} (count : k ≡ length s / block_bytes (size_of w)) (size : b ≡ block_bytes (size_of w)) where
  end : k * b ≡ length s / block_bytes (size_of w) * block_bytes (size_of w)
  end = ap₂ ◌*◌ count size

  pub inside : k * b ≤ length s
  inside = omega (arith, end, div-add-mod' (length s) (block_bytes (size_of w)))

  abbrev pub rest : List ℕ
  rest = take (length s - k * b) (drop (k * b) s)

  pub rest-is : rest ≡ rest_of (size_of w) s
  unfolding rest_of
  rest-is = from_place s (k * b) ∙ ap (λ (i : ℕ). drop i s) end

  pub rest-length : length rest ≡ length s % block_bytes (size_of w)
  rest-length = ap length rest-is ∙ length_rest (size_of w) (block-some w) s

  pub rest-short : length rest < block_bytes (size_of w)
  rest-short = rw rest-length (mod-lt (length s) (block-some w))

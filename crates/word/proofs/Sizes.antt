-- What generic code needs of a word size.
-- Assumes nothing.
use mathlib.Core.Path.{◌≡◌, sym, subst}
use mathlib.Core.Logic.{◌⊎◌, inl, inr}
use Prim.Native.Nat.{ℕ, suc, ◌+◌, ◌*◌, ◌/◌, ◌≤◌, ◌<◌}
use native.Mathlib.Nat.{mul-le-mul_right, suc-mul, div-mul-le_self}
use native.Mathlib.Omega.{arith}
use Rattle.lsh.specs.WordSize.{WordSize, lsh256, lsh512, word_bytes, chain_bytes, block_bytes}
use Rattle.lsh.proofs.Figures.{Amounts, amounts256, amounts512}

pub record Sized (z : WordSize) : Type 0 where
  pub amounts : Amounts z
  pub chain : 16 * word_bytes z ≡ chain_bytes z
  pub block : 32 * word_bytes z ≡ block_bytes z
  pub some : 1 ≤ z.steps
  pub most : z.steps ≤ 28
  pub even : z.steps / 2 * 2 ≡ z.steps
  pub block-some : 0 < block_bytes z

sized256 : Sized lsh256
unfolding lsh256 word_bytes chain_bytes block_bytes
sized256 = record { amounts = amounts256; chain = omega arith; block = omega arith; some = omega arith; most = omega arith; even = omega arith; block-some = omega arith }

sized512 : Sized lsh512
unfolding lsh512 word_bytes chain_bytes block_bytes
sized512 = record { amounts = amounts512; chain = omega arith; block = omega arith; some = omega arith; most = omega arith; even = omega arith; block-some = omega arith }

pub sized : {z : WordSize} → (z ≡ lsh256) ⊎ (z ≡ lsh512) → Sized z
sized (inl e) = subst Sized (sym e) sized256
sized (inr e) = subst Sized (sym e) sized512

-- part l of n parts of k each lies inside
pub part-inside : {l n : ℕ} (k : ℕ) → l < n → l * k + k ≤ n * k
part-inside {l} {n} k lt =
    let most : suc l * k ≤ n * k = mul-le-mul_right k lt in
    omega (arith, suc-mul l k)

-- block k of as many as there are stands inside
pub block-inside : {k len : ℕ} (b : ℕ) → k < len / b → k * b + b ≤ len
block-inside {k} {len} b lt = omega (arith, part-inside b lt, div-mul-le_self len b)

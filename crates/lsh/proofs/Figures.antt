-- What the laws need of a word size, for both.
-- Assumes nothing.
use mathlib.Core.Path.{◌≡◌, refl, sym, ap, subst}
use mathlib.Core.Bool.{Bool, true, false}
use Prim.Native.Nat.{ℕ, ◌%◌, ◌≤◌, ◌<◌, suc-le-suc}
use native.Mathlib.Omega.{arith}
use borrow.Author.Tests.{eqb-true}
use lib.Dec.{eqb}
use Rattle.lsh.specs.WordSize.{WordSize, lsh256, lsh512, is_word_size, size_of, block_bytes, alpha, beta, gamma}
use Rattle.lsh.proofs.Tests.{at-up_to}

-- the rotation amounts are below the bits of a word
pub record Amounts (z : WordSize) : Type 0 where
  pub α : (j : ℕ) → alpha z j < z.bits
  pub β : (j : ℕ) → beta z j < z.bits
  pub γ : (l : ℕ) → gamma z l < z.bits

pub amounts256 : Amounts lsh256
unfolding lsh256 alpha beta gamma
amounts256 =
    record {
      α = λ j. suc-le-suc (at-up_to 31 lsh256.alphas tt (j % 2));
      β = λ j. suc-le-suc (at-up_to 31 lsh256.betas tt (j % 2));
      γ = λ l. suc-le-suc (at-up_to 31 lsh256.gammas tt l);
    }

pub amounts512 : Amounts lsh512
unfolding lsh512 alpha beta gamma
amounts512 =
    record {
      α = λ j. suc-le-suc (at-up_to 63 lsh512.alphas tt (j % 2));
      β = λ j. suc-le-suc (at-up_to 63 lsh512.betas tt (j % 2));
      γ = λ l. suc-le-suc (at-up_to 63 lsh512.gammas tt l);
    }

-- what holds of the figures of both word sizes holds of those of every w
pub of-both : (P : WordSize → Type 0) → P lsh256 → P lsh512 → (w : ℕ) → P (size_of w)
unfolding size_of
of-both P small large w = go (eqb w 64)
  where
    go : (b : Bool) → P (elim b [ true ↦ lsh512 | false ↦ lsh256 ])
    go true = large
    go false = small

pub amounts : (w : ℕ) → Amounts (size_of w)
amounts = of-both Amounts amounts256 amounts512

pub block-some : (w : ℕ) → 0 < block_bytes (size_of w)
unfolding block_bytes lsh256 lsh512
block-some = of-both (λ (z : WordSize). 0 < block_bytes z) (omega arith) (omega arith)

-- what holds of 32 and of 64 holds of every word size
pub by_size : (P : ℕ → Type 0) → P 32 → P 64 → (w : ℕ) → is_word_size w ≡ true → P w
unfolding is_word_size
by_size P at32 at64 w e = go (eqb w 32) refl
  where
    go : (b : Bool) → eqb w 32 ≡ b → P w
    go true is = subst P (sym (eqb-true w 32 is)) at32
    go false is = subst P (sym (eqb-true w 64 (rw is at e))) at64

pub size_32 : {w : ℕ} → w ≡ 32 → size_of w ≡ lsh256
unfolding size_of
size_32 e = ap size_of e

pub size_64 : (w : ℕ) → is_word_size w ≡ true → (w ≡ 32 → ⊥) → size_of w ≡ lsh512
unfolding size_of
size_64 = by_size (λ (w : ℕ). (w ≡ 32 → ⊥) → size_of w ≡ lsh512) (λ other. absurd (other refl)) (λ other. refl)

pub bits_are : (w : ℕ) → is_word_size w ≡ true → (size_of w).bits ≡ w
unfolding size_of lsh256 lsh512
bits_are = by_size (λ (w : ℕ). (size_of w).bits ≡ w) refl refl

pub word-most : (w : ℕ) → is_word_size w ≡ true → w ≤ 64
word-most = by_size (λ (w : ℕ). w ≤ 64) (omega arith) (omega arith)

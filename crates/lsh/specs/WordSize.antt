-- The figures of a word size, each named once, and the permutations that both word sizes share.
-- Assumes nothing.
use Rattle.std.specs.Prelude.{Bool, true, false, ◌||◌, List, [], ◌∷◌, ℕ, suc, ◌*◌, ◌/◌, ◌%◌, eqb}
use Rattle.lsh.specs.Tabulate.{at}

-- w, Ns (5), the amounts of Table 2 and SC_0. alphas and betas have an amount for the even steps, and then one for the odd
pub record WordSize : Type 0 where
  pub bits : ℕ
  pub steps : ℕ
  pub alphas : List ℕ
  pub betas : List ℕ
  pub gammas : List ℕ
  pub first_constants : List ℕ

-- LSH-256, with SC_0 of (12)
unfoldable pub lsh256 : WordSize
lsh256 =
    record {
      bits = 32;
      steps = 26;
      alphas = 29 ∷ 5 ∷ [];
      betas = 1 ∷ 17 ∷ [];
      gammas = 0 ∷ 8 ∷ 16 ∷ 24 ∷ 24 ∷ 16 ∷ 8 ∷ 0 ∷ [];
      first_constants =
          0x917caf90 ∷ 0x6c1b10a2 ∷ 0x6f352943 ∷ 0xcf778243 ∷ 0x2ceb7472 ∷ 0x29e96ff2 ∷ 0x8a9ba428 ∷ 0x2eeb2642 ∷ [];
    }

-- LSH-512, with SC_0 of (13). The paper prints the second constant with 15 digits; (17) decides the one that stands here
unfoldable pub lsh512 : WordSize
lsh512 =
    record {
      bits = 64;
      steps = 28;
      alphas = 23 ∷ 7 ∷ [];
      betas = 59 ∷ 3 ∷ [];
      gammas = 0 ∷ 16 ∷ 32 ∷ 48 ∷ 8 ∷ 24 ∷ 40 ∷ 56 ∷ [];
      first_constants =
          0x97884283c938982a ∷ 0xba1fca93533e2355 ∷ 0xc519a2e87aeb1c03 ∷ 0x9a0fc95462af17b1
          ∷ 0xfc3dda8ab019a82b ∷ 0x02825d079a895407 ∷ 0x79f2d0a7ee06a6f7 ∷ 0xd76d15eed9fdf5fe ∷ [];
    }

-- w is 32 or 64
unfoldable pub is_word_size : ℕ → Bool
is_word_size w = eqb w 32 || eqb w 64

-- by w: 64 is LSH-512, and every other number LSH-256 (calls refuse a w that is neither 32 nor 64)
unfoldable pub size_of : ℕ → WordSize
size_of w = elim (eqb w 64) [ true ↦ lsh512 | false ↦ lsh256 ]

-- the bytes of a word, of a chain of 16 words, and of a block of 32 words
unfoldable pub word_bytes : WordSize → ℕ
word_bytes z = z.bits / 8

unfoldable pub chain_bytes : WordSize → ℕ
chain_bytes z = 2 * z.bits

unfoldable pub block_bytes : WordSize → ℕ
block_bytes z = 4 * z.bits

-- the amounts of step j, and of lane l (Table 2)
unfoldable pub alpha : WordSize → ℕ → ℕ
alpha z j = at z.alphas (j % 2)

unfoldable pub beta : WordSize → ℕ → ℕ
beta z j = at z.betas (j % 2)

unfoldable pub gamma : WordSize → ℕ → ℕ
gamma z l = at z.gammas l

-- Table 3
unfoldable pub tau : List ℕ
tau = 3 ∷ 2 ∷ 0 ∷ 1 ∷ 7 ∷ 4 ∷ 5 ∷ 6 ∷ 11 ∷ 10 ∷ 8 ∷ 9 ∷ 15 ∷ 12 ∷ 13 ∷ 14 ∷ []

unfoldable pub sigma : List ℕ
sigma = 6 ∷ 4 ∷ 5 ∷ 7 ∷ 12 ∷ 15 ∷ 14 ∷ 13 ∷ 2 ∷ 0 ∷ 1 ∷ 3 ∷ 8 ∷ 11 ∷ 10 ∷ 9 ∷ []

-- the place of l in a permutation: where its inverse takes l
unfoldable pub place_of : ℕ → List ℕ → ℕ
place_of l [] = 0
place_of l (x ∷ xs) = elim (eqb l x) [ true ↦ 0 | false ↦ suc (place_of l xs) ]

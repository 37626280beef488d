-- A byte string cut into its whole blocks and a rest: block by block, and joined of two strings.
-- Assumes nothing.
use mathlib.Core.Path.{◌≡◌, refl, sym, ap, ◌∙◌}
use mathlib.Core.List.{List, [], ◌∷◌, ◌++◌}
use Prim.Native.Nat.{ℕ, zero, suc, ◌+◌, ◌*◌, ◌/◌, ◌%◌, ◌≤◌, ◌<◌}
use native.Mathlib.Nat.{zero-add, suc-add, zero-mul, suc-mul, add_comm, add-mul, div_self, le_of_eq, div-add-mod', mul-add-div_right, div-eq_of_lt}
use native.Mathlib.Numerals.{add-one}
use native.Mathlib.Omega.{arith}
use lib.ListN.{length, take, drop, length-append, length-drop}
use lib.Seq.{drop-drop, take_all, take-append-le, drop-append-le}
use Rattle.lsh.specs.WordSize.{WordSize, block_bytes}
use Rattle.lsh.specs.Bytes.{words_of}
use Rattle.lsh.specs.Padding.{first_blocks, blocks_of, rest_of}
use Rattle.lsh.specs.ByteString.{Bytes}
use Rattle.lsh.proofs.Bytes.{bytes_drop}

-- block k of a byte string
abbrev pub block_at : WordSize → List ℕ → ℕ → List ℕ
block_at z s k = words_of z 32 (take (block_bytes z) (drop (k * block_bytes z) s))

-- the first j + k blocks: the first j, and the first k of what is after them
pub first_blocks-add : (z : WordSize) (j k : ℕ) (s : List ℕ) → first_blocks z (j + k) s ≡ first_blocks z j s ++ first_blocks z k (drop (j * block_bytes z) s)
unfolding first_blocks
first_blocks-add z zero k s = simp (zero-add, zero-mul)
first_blocks-add z (suc j) k s =
    let B : ℕ = block_bytes z in
    let e : drop (j * B) (drop B s) ≡ drop (suc j * B) s =
    drop-drop (j * B) B s ∙ ap (λ (n : ℕ). drop n s) (add_comm B (j * B) ∙ sym (suc-mul j B)) in
    ap (λ (n : ℕ). first_blocks z n s) (suc-add j k)
    ∙ ap (λ (bs : List (List ℕ)). words_of z 32 (take B s) ∷ bs) (first_blocks-add z j k (drop B s))
    ∙ ap (λ (t : List ℕ). first_blocks z (suc j) s ++ first_blocks z k t) e

pub first_blocks-more : (z : WordSize) (k : ℕ) (s : List ℕ) → first_blocks z (suc k) s ≡ first_blocks z k s ++ block_at z s k ∷ []
unfolding first_blocks
first_blocks-more z k s = ap (λ (n : ℕ). first_blocks z n s) (sym (add-one k)) ∙ first_blocks-add z k 1 s

-- the first blocks of two strings joined, where the first has them all
pub first_blocks-front : (z : WordSize) (k : ℕ) (s p : List ℕ) → k * block_bytes z ≤ length s → first_blocks z k (s ++ p) ≡ first_blocks z k s
unfolding first_blocks
first_blocks-front z zero s p h = refl
first_blocks-front z (suc k) s p h =
    let B : ℕ = block_bytes z in
    let l : B ≤ length s = omega (arith, suc-mul k B) in
    rw (take-append-le B s p l, drop-append-le B s p l)
    (ap (λ (bs : List (List ℕ)). words_of z 32 (take B s) ∷ bs)
    (first_blocks-front z k (drop B s) p (omega (arith, suc-mul k B, length-drop B s))))

-- what is left of bytes is bytes
pub rest-bytes : (z : WordSize) (s : List ℕ) → Bytes s → Bytes (rest_of z s)
unfolding rest_of
rest-bytes z s h = bytes_drop (length s / block_bytes z * block_bytes z) s h

module _ (z : WordSize) (some : 0 < block_bytes z) where
  pub length_rest : (s : List ℕ) → length (rest_of z s) ≡ length s % block_bytes z
  unfolding rest_of
  length_rest s = rw length-drop (omega (arith, div-add-mod' (length s) (block_bytes z)))

  -- the blocks of two strings joined: those of the first, and those of its rest joined with the second
  parts : (s p : List ℕ) → length (s ++ p) / block_bytes z ≡ length s / block_bytes z + length (rest_of z s ++ p) / block_bytes z
  parts s p =
      ap (λ (n : ℕ). n / block_bytes z)
      (omega (arith, div-add-mod' (length s) (block_bytes z), length-append s p, length-append (rest_of z s) p, length_rest s))
      ∙ mul-add-div_right some (length s / block_bytes z) (length (rest_of z s ++ p))

  whole_le : (s : List ℕ) → length s / block_bytes z * block_bytes z ≤ length s
  whole_le s = omega (arith, div-add-mod' (length s) (block_bytes z))

  pub blocks-append : (s p : List ℕ) → blocks_of z (s ++ p) ≡ blocks_of z s ++ blocks_of z (rest_of z s ++ p)
  unfolding blocks_of rest_of
  blocks-append s p =
      rw (
        parts s p,
        first_blocks-add z (length s / block_bytes z) (length (rest_of z s ++ p) / block_bytes z) (s ++ p),
        first_blocks-front z (length s / block_bytes z) s p (whole_le s),
        drop-append-le (length s / block_bytes z * block_bytes z) s p (whole_le s),
      )

  pub rest-append : (s p : List ℕ) → rest_of z (s ++ p) ≡ rest_of z (rest_of z s ++ p)
  unfolding rest_of
  rest-append s p =
      rw (
        parts s p,
        add-mul (length s / block_bytes z) (length (rest_of z s ++ p) / block_bytes z) (block_bytes z),
        ← drop-drop (length (rest_of z s ++ p) / block_bytes z * block_bytes z) (length s / block_bytes z * block_bytes z) (s ++ p),
        drop-append-le (length s / block_bytes z * block_bytes z) s p (whole_le s),
      )

  -- a string shorter than a block, and whole blocks
  pub blocks-short : (s : List ℕ) → length s < block_bytes z → blocks_of z s ≡ []
  unfolding blocks_of first_blocks
  blocks-short s h = rw div-eq_of_lt

  pub rest-short : (s : List ℕ) → length s < block_bytes z → rest_of z s ≡ s
  unfolding rest_of
  rest-short s h = rw (div-eq_of_lt, zero-mul)

  pub rest-none : (s : List ℕ) → length s % block_bytes z ≡ 0 → rest_of z s ≡ []
  rest-none s h = empty (rest_of z s) (length_rest s ∙ h)
    where
      empty : (l : List ℕ) → length l ≡ 0 → l ≡ []
      empty [] e = refl
      empty (x ∷ xs) e = absurd (omega arith)

  -- one block
  pub one_block : (s : List ℕ) → length s ≡ block_bytes z → blocks_of z s ≡ words_of z 32 s ∷ []
  unfolding blocks_of first_blocks
  one_block s e =
      ap (λ (k : ℕ). first_blocks z k s) (ap (λ (n : ℕ). n / block_bytes z) e ∙ div_self some)
      ∙ ap (λ (b : List ℕ). words_of z 32 b ∷ []) (take_all (block_bytes z) s (le_of_eq e))

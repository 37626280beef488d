-- A figure and a run by their word size.
-- Assumes nothing.
use mathlib.Core.Path.{◌≡◌, sym, ap, ◌∙◌, subst}
use mathlib.Core.Bool.{Bool, true, false}
use mathlib.Core.List.{List, []}
use Prim.Native.Nat.{ℕ, ◌/◌, ◌<◌}
use native.Mathlib.Nat.{div-eq_of_lt}
use lib.ListN.{length}
use borrow.Author.Tests.{ne_eqb}
use Rattle.lsh.specs.WordSize.{WordSize, lsh256, lsh512, size_of, block_bytes}
use Rattle.lsh.specs.Bytes.{words_of, bytes_of}
use Rattle.lsh.specs.Padding.{blocks_of}
use Rattle.lsh.proofs.Figures.{block-some}
use Rattle.lsh.proofs.Padding.{blocks-short}

module _ (figure : WordSize → ℕ) (w : ℕ) where
  pub figure-64 : w ≡ 64 → figure lsh512 ≡ figure (size_of w)
  unfolding size_of
  figure-64 is = rw is

  pub figure-other : (w ≡ 64 → ⊥) → figure lsh256 ≡ figure (size_of w)
  unfolding size_of
  figure-other other = ap (λ (b : Bool). figure (elim b [ true ↦ lsh512 | false ↦ lsh256 ])) (sym (ne_eqb w 64 other))

-- blocks run on a chain of a word size, forward or backward
abbrev pub Running : Type 0
Running = WordSize → List (List ℕ) → List ℕ → List ℕ

module _ (run : Running) (w : ℕ) (s : List ℕ) where
  -- what the code of a word size gives is what w asks for
  pub run_by : {z : WordSize} {t t₁ r : List ℕ} {n : ℕ} → size_of w ≡ z → t₁ ≡ t
      → (r ≡ run z (blocks_of z s) t₁) × (n ≡ length s / block_bytes z)
      → (r ≡ run (size_of w) (blocks_of (size_of w) s) t) × (n ≡ length s / block_bytes (size_of w))
  run_by {z} {t} {t₁} {r} {n} is same gives =
      subst (λ (v : WordSize). (r ≡ run v (blocks_of v s) t) × (n ≡ length s / block_bytes v)) (sym is)
      (gives.0 ∙ ap (run z (blocks_of z s)) same, gives.1)

  -- a string without a whole block
  pub run_none : (t : List ℕ) → run (size_of w) [] t ≡ t → length s < block_bytes (size_of w)
      → (t ≡ run (size_of w) (blocks_of (size_of w) s) t) × (0 ≡ length s / block_bytes (size_of w))
  run_none t none less = (rw (blocks-short (size_of w) (block-some w) s less, none), sym (div-eq_of_lt less))

  -- the same on the bytes of a chain
  pub bytes-by : (c : List ℕ) {z : WordSize} {t r d : List ℕ} → size_of w ≡ z → t ≡ words_of z 16 c → r ≡ run z (blocks_of z s) t → d ≡ bytes_of z r
      → d ≡ bytes_of (size_of w) (run (size_of w) (blocks_of (size_of w) s) (words_of (size_of w) 16 c))
  bytes-by c {z} {t} {r} {d} is words gives stored =
      subst (λ (v : WordSize). d ≡ bytes_of v (run v (blocks_of v s) (words_of v 16 c))) (sym is)
      (stored ∙ ap (bytes_of z) (gives ∙ ap (run z (blocks_of z s)) words))

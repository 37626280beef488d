-- The loops over the whole blocks of a byte string, forward in order and backward from the last.
-- Assumes nothing.
use mathlib.Core.Path.{◌≡◌, refl, sym, ap, ap₂, ◌∙◌, subst}
use mathlib.Core.List.{List, [], ◌∷◌}
use Prim.Native.Nat.{ℕ, suc, ◌+◌, ◌-◌, ◌*◌, ◌/◌, ◌≤◌, ◌<◌, zero-le}
use native.Mathlib.Nat.{le_antisymm, zero-add}
use native.Mathlib.Numerals.{add-one}
use native.Mathlib.Omega.{arith}
use lib.ListN.{length, take, drop, length-drop}
use lib.Seq.{length-take-le}
use Rattle.lsh.specs.WordSize.{WordSize, block_bytes}
use Rattle.lsh.specs.Bytes.{words_of}
use Rattle.lsh.specs.Block.{forward_steps, backward_steps, forwards_steps, backwards_steps}
use Rattle.lsh.specs.Padding.{first_blocks, blocks_of}
use Rattle.loops.specs.Parts.{part}
use Rattle.lsh.proofs.Blocks.{forwards_steps-append, backwards_steps-append}
use Rattle.lsh.proofs.Padding.{block_at, first_blocks-more}

pub length_part : (z : WordSize) (s : List ℕ) (k : ℕ) → k * block_bytes z + block_bytes z ≤ length s → length (part z s k) ≡ block_bytes z
length_part z s k room =
    let B : ℕ = block_bytes z in
    let e : k * B + B - k * B ≡ B = omega arith in
    rw e (length-take-le B (drop (k * B) s) (rw (length-drop (k * B) s) (omega arith)))

part-block : (z : WordSize) (s : List ℕ) (k : ℕ) → words_of z 32 (part z s k) ≡ block_at z s k
part-block z s k =
    let B : ℕ = block_bytes z in
    let e : k * B + B - k * B ≡ B = omega arith in
    ap (λ (n : ℕ). words_of z 32 (take n (drop (k * B) s))) e

-- count blocks of n are run, with k steps each
pub record RunForward (z : WordSize) (k n : ℕ) (s t c : List ℕ) (count : ℕ) : Type 0 where
  pub up_to : count ≤ n
  pub chain : c ≡ forwards_steps z k (first_blocks z count s) t

pub run-forward-none : (z : WordSize) (k n : ℕ) (s t : List ℕ) → RunForward z k n s t t 0
unfolding first_blocks forwards_steps
run-forward-none z k n s t = record { up_to = zero-le; chain = refl }

pub run-forward-more : {z : WordSize} {k n : ℕ} {s t c : List ℕ} {count : ℕ} (u : List ℕ) → RunForward z k n s t c count → count < n
    → u ≡ forward_steps z k (words_of z 32 (part z s count)) c → RunForward z k n s t u (count + 1)
unfolding forwards_steps
run-forward-more {z} {k} {n} {s} {t} {c} {count} u h lt e =
    record {
      up_to = omega arith;
      chain =
          e ∙ ap₂ (forward_steps z k) (part-block z s count) h.chain
          ∙ sym (ap (λ (i : ℕ). forwards_steps z k (first_blocks z i s) t) (add-one count)
          ∙ ap (λ (bs : List (List ℕ)). forwards_steps z k bs t) (first_blocks-more z count s)
          ∙ forwards_steps-append z k (first_blocks z count s) (block_at z s count ∷ []) t);
    }

pub run-forward-all : {z : WordSize} {k : ℕ} {s t c : List ℕ} {count : ℕ} → RunForward z k (length s / block_bytes z) s t c count
    → length s / block_bytes z ≤ count → (c ≡ forwards_steps z k (blocks_of z s) t) × (count ≡ length s / block_bytes z)
unfolding blocks_of
run-forward-all {z} {k} {s} {t} {c} {count} h le =
    let all : count ≡ length s / block_bytes z = le_antisymm h.up_to le in
    (h.chain ∙ ap (λ (i : ℕ). forwards_steps z k (first_blocks z i s) t) all, all)

-- count blocks of n are run from the last, with k steps each, and left are left
pub record RunBackward (z : WordSize) (k n : ℕ) (s t c : List ℕ) (count left : ℕ) : Type 0 where
  pub both : count + left ≡ n
  pub chain : backwards_steps z k (first_blocks z left s) c ≡ backwards_steps z k (first_blocks z n s) t

pub run-backward-none : (z : WordSize) (k n : ℕ) (s t : List ℕ) → RunBackward z k n s t t 0 n
run-backward-none z k n s t = record { both = zero-add n; chain = refl }

pub run-backward-more : {z : WordSize} {k n : ℕ} {s t c : List ℕ} {count left : ℕ} (u : List ℕ) → RunBackward z k n s t c count left → 0 < left
    → u ≡ backward_steps z k (words_of z 32 (part z s (left - 1))) c → RunBackward z k n s t u (count + 1) (left - 1)
unfolding backwards_steps
run-backward-more {z} {k} {n} {s} {t} {c} {count} {left} u h lt e =
    let rest : ℕ = left - 1 in
    let before : left ≡ suc rest = omega arith in
    let sum : count + left ≡ n = h.both in
    record {
      both = omega arith;
      chain =
          ap (backwards_steps z k (first_blocks z rest s)) (e ∙ ap (λ (w : List ℕ). backward_steps z k w c) (part-block z s rest))
          ∙ sym (ap (λ (i : ℕ). backwards_steps z k (first_blocks z i s) c) before
          ∙ ap (λ (bs : List (List ℕ)). backwards_steps z k bs c) (first_blocks-more z rest s)
          ∙ backwards_steps-append z k (first_blocks z rest s) (block_at z s rest ∷ []) c)
          ∙ h.chain;
    }

pub run-backward-all : {z : WordSize} {k : ℕ} {s t c : List ℕ} {count left : ℕ} → RunBackward z k (length s / block_bytes z) s t c count left → left ≤ 0
    → (c ≡ backwards_steps z k (blocks_of z s) t) × (count ≡ length s / block_bytes z)
unfolding blocks_of first_blocks backwards_steps
run-backward-all {z} {k} {s} {t} {c} {count} {left} h le =
    let none : left ≡ 0 = omega arith in
    let sum : count + left ≡ length s / block_bytes z = h.both in
    (subst (λ (i : ℕ). backwards_steps z k (first_blocks z i s) c ≡ backwards_steps z k (first_blocks z (length s / block_bytes z) s) t) none h.chain, omega arith)

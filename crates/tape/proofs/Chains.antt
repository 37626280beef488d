-- The tape's checkpoints: those of a tape that grows, as Append works their chains out from the record, and those of one that is cut.
-- Assumes nothing.
use mathlib.Core.Path.{◌≡◌, sym, ap, ap₂, ◌∙◌}
use mathlib.Core.Bool.{true}
use mathlib.Core.List.{List, ◌++◌, map-append}
use Prim.Native.Nat.{ℕ, ◌+◌, ◌-◌, ◌*◌, ◌/◌, ◌≤◌, ◌<◌}
use native.Mathlib.Nat.{mul-le-mul_right, div-add-mod'}
use native.Mathlib.Omega.{arith}
use lib.ListN.{length, take, drop, length-append, length-take, take-append-drop}
use lib.Seq.{drop-append-le}
use Rattle.lsh.specs.WordSize.{WordSize, is_word_size, size_of, block_bytes}
use Rattle.lsh.specs.Opening.{opening}
use Rattle.lsh.specs.Padding.{rest_of}
use Rattle.lsh.specs.Chains.{chain_after}
use Rattle.lsh.proofs.Chains.{after-all, after-further, after_front}
use Rattle.orders.specs.Record.{record_of}
use Rattle.orders.proofs.Strings.{held-record}
use Rattle.checkpoints.specs.Due.{Checkpoint, checkpoints_at, numbers_of, due_numbers, up_to}
use Rattle.checkpoints.proofs.Spacing.{no-fewer-blocks}
use Rattle.checkpoints.proofs.Due.{due-parts, due-each, due-up-to, same_at, numbers-at, take-at-numbers}
use Rattle.checkpoints.specs.AppendRoll.{due, chain_at}
use Rattle.tape.specs.Tape.{whole_blocks}
use Rattle.tape.specs.TapeRoll.{tape_checkpoints}

module _ (w n : ℕ) where
  abbrev Z : WordSize
  Z = size_of w

  abbrev B : ℕ
  B = block_bytes Z

  -- the chain after k blocks of the tape
  abbrev after : List ℕ → ℕ → List ℕ
  after s k = chain_after Z (opening Z n) s k

  -- so many blocks lie in the first bytes
  pub blocks-in : (s : List ℕ) (k : ℕ) → k ≤ length s / B → k * B ≤ length s
  blocks-in s k le = omega (arith, mul-le-mul_right B le, div-add-mod' (length s) B)

  -- the checkpoints of the tape are those of a longer one up to its blocks
  front_same : (s p : List ℕ) → tape_checkpoints w n s ≡ checkpoints_at (after (s ++ p)) (due_numbers 0 (whole_blocks w s))
  unfolding tape_checkpoints whole_blocks
  front_same s p =
      same_at (after s) (after (s ++ p)) (due_numbers 0 (length s / B))
      (due-each 0 (length s / B) _ (λ k from to. sym (after_front Z (opening Z n) s p k (blocks-in s k to))))

  -- a piece appended to the record of the tape: the chain after k blocks, past those that the tape has
  chain-appended : is_word_size w ≡ true → (s p : List ℕ) (k : ℕ) → length s / B < k → chain_at (record_of w n s) p k ≡ after (s ++ p) k
  unfolding chain_at record_of rest_of
  chain-appended word s p k past =
      let O : List ℕ = opening Z n in
      let a : ℕ = length s / B in
      let behind : a * B ≤ length s = omega (arith, div-add-mod' (length s) B) in
      let sum : a + (k - a) ≡ k = omega arith in
      ap₂ (λ (t h : List ℕ). chain_after Z t (h ++ p) (k - a)) (sym (after_front Z O s p a behind ∙ after-all Z O s)) (held-record w n s word)
      ∙ ap (λ (h : List ℕ). chain_after Z (after (s ++ p) a) h (k - a)) (sym (drop-append-le (a * B) s p behind))
      ∙ after-further Z O (s ++ p) a (k - a)
      ∙ ap (after (s ++ p)) sum

  -- with those due for the piece they are the checkpoints of the longer tape
  pub checkpoints-grow : is_word_size w ≡ true → (s p : List ℕ)
      → tape_checkpoints w n s ++ checkpoints_at (chain_at (record_of w n s) p) (due (record_of w n s) (length p)) ≡ tape_checkpoints w n (s ++ p)
  unfolding tape_checkpoints whole_blocks due record_of
  checkpoints-grow word s p =
      let a : ℕ = length s / B in
      let c : ℕ = (length s + length p) / B in
      let f : ℕ → List ℕ = after (s ++ p) in
      ap₂ (λ (xs ys : List Checkpoint). xs ++ ys) (front_same s p)
      (same_at (chain_at (record_of w n s) p) f (due_numbers a c) (due-each a c _ (λ k from to. chain-appended word s p k from)))
      ∙ sym (map-append (λ k. record { number = k; chain = f k }) (due_numbers 0 a) (due_numbers a c))
      ∙ ap (checkpoints_at f) (sym (due-parts 0 c a (omega arith) (no-fewer-blocks w (length s) (length s + length p) (omega arith))))
      ∙ ap (λ (m : ℕ). checkpoints_at f (due_numbers 0 (m / B))) (sym (length-append s p))

  -- those of a tape that is cut after its first x bytes
  pub checkpoints-cut : (s : List ℕ) (x : ℕ)
      → take (up_to (whole_blocks w (take x s)) (numbers_of (tape_checkpoints w n s))) (tape_checkpoints w n s) ≡ tape_checkpoints w n (take x s)
  unfolding tape_checkpoints whole_blocks
  checkpoints-cut s x =
      let t : List ℕ = take x s in
      let b : ℕ = length t / B in
      let c : ℕ = length s / B in
      ap (λ (l : List ℕ). take (up_to b l) (tape_checkpoints w n s)) (numbers-at (after s) (due_numbers 0 c))
      ∙ take-at-numbers (after s) (up_to b (due_numbers 0 c)) (due_numbers 0 c)
      ∙ ap (checkpoints_at (after s)) (due-up-to b c (no-fewer-blocks w (length t) (length s) (omega (arith, length-take x s))))
      ∙ ap (λ (u : List ℕ). checkpoints_at (after u) (due_numbers 0 b)) (sym (take-append-drop x s))
      ∙ sym (front_same t (drop x s))

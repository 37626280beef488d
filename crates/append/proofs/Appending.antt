-- What an accepted Append gives, by how it goes: to a record that holds no bytes, without filling a block, and filling the block begun.
-- Assumes nothing.
use mathlib.Core.Path.{◌≡◌, sym, ap, ◌∙◌}
use mathlib.Core.Bool.{true}
use mathlib.Core.List.{List, ◌++◌, append_assoc}
use Prim.Native.Nat.{ℕ, ◌+◌, ◌-◌, ◌*◌, ◌/◌, ◌%◌, ◌≤◌, ◌<◌}
use native.Mathlib.Nat.{mul-add-div_right, div-eq_of_lt, mod_self, le_refl}
use native.Mathlib.Omega.{arith}
use lib.ListN.{length, take, drop, replicate, length-append, length-drop, take-append-drop}
use lib.Seq.{take_all, length-take-le, paste, take-paste, drop-drop}
use Rattle.lsh.specs.WordSize.{WordSize, size_of, block_bytes}
use Rattle.lsh.specs.Block.{forwards}
use Rattle.lsh.specs.Padding.{blocks_of, rest_of}
use Rattle.lsh.proofs.Figures.{block-some}
use Rattle.lsh.proofs.Padding.{blocks-short, rest-short}
use Rattle.lsh.proofs.Splitting.{forwards-split, rest-split}
use Rattle.limits.specs.Limits.{longest_block}
use Rattle.limits.proofs.Limits.{block-most}
use Rattle.lists.proofs.Zeros.{drop-replicate}
use Rattle.orders.specs.declared.Record.{Record}
use Rattle.orders.specs.declared.Outcome.{Outcome}
use Rattle.orders.specs.Record.{held_of, held_length, sound, held_bytes}
use Rattle.lists.proofs.Lists.{zero-all}
use Rattle.orders.proofs.Sound.{sounds}
use Rattle.orders.proofs.Held.{fill-lt, held-length}
use Rattle.orders.specs.Append.{appended, append_accepted}
use Rattle.orders.proofs.AfterPiece.{total-is}

-- the answer to an accepted call
abbrev answered : Record → ℕ → ℕ → List ℕ → List ℕ → Outcome
answered r size count chain held =
    record {
      number = 0;
      count = count;
      next = record { w = r.w; n = r.n; total = r.total + size; chain = chain; held = held; split = r.split };
    }

-- how many bytes are held, and how many the block begun has room for
abbrev pub fill : Record → ℕ
fill r = held_length r.w r.total

abbrev pub room : Record → ℕ
room r = block_bytes (size_of r.w) - fill r

module _ (r : Record) (ok : sound r ≡ true) (long : length r.held ≡ longest_block) (p : List ℕ) where
  abbrev Z : WordSize
  Z = size_of r.w

  abbrev B : ℕ
  B = block_bytes Z

  -- the string whose whole blocks are run
  abbrev whole : List ℕ
  whole = held_bytes r ++ p

  some : 0 < B
  some = block-some r.w

  accepted : append_accepted r p ≡ answered r (length p) (length whole / B) (forwards Z (blocks_of Z whole) r.chain) (held_of (rest_of Z whole))
  unfolding append_accepted appended
  accepted =
      let f : (r.total + length p) / B - r.total / B ≡ length whole / B =
      omega (arith, ap (λ (n : ℕ). n / B) (total-is r long p) ∙ mul-add-div_right some (r.total / B) (length whole)) in
      rw f

  pub even : fill r ≡ 0 → append_accepted r p ≡ answered r (length p) (length p / B) (forwards Z (blocks_of Z p) r.chain) (held_of (rest_of Z p))
  unfolding held_bytes
  even none = accepted ∙ rw none

  zeros-after : drop (fill r + length p) r.held ≡ replicate (longest_block - (fill r + length p)) 0
  zeros-after =
      let e : length r.held - fill r - length p ≡ longest_block - (fill r + length p) = omega arith in
      rw (← drop-drop (length p) (fill r) r.held, zero-all (drop (fill r) r.held) (sounds r ok).zero, drop-replicate, length-drop, e)

  pub short : fill r + length p < B → append_accepted r p ≡ answered r (length p) 0 r.chain (paste r.held (fill r) p (length p))
  unfolding held_of held_bytes forwards
  short lt =
      let l : length whole ≡ fill r + length p = omega (arith, held-length r long, length-append (held_bytes r) p) in
      let k : length whole < B = omega arith in
      accepted
      ∙ rw (div-eq_of_lt k, blocks-short Z some whole k, rest-short Z some whole k, l, zeros-after, take_all (length p) p (le_refl (length p)))

  -- the first bytes of the piece, which fill the block begun
  abbrev filling : List ℕ
  filling = take (room r) p

  filling-length : room r ≤ length p → length filling ≡ room r
  filling-length le = length-take-le (room r) p le

  pub first_block : room r ≤ length p → take B (paste r.held (fill r) filling (length filling)) ≡ held_bytes r ++ filling
  unfolding held_bytes
  first_block le =
      let l : fill r + length filling ≡ B = omega (arith, filling-length le, fill-lt r long) in
      ap (λ (n : ℕ). take n (paste r.held (fill r) filling (length filling))) (sym l)
      ∙ take-paste r.held (fill r) filling (length filling) (omega (arith, fill-lt r long, block-most r.w, long)) (le_refl (length filling))
      ∙ ap (λ (x : List ℕ). take (fill r) r.held ++ x) (take_all (length filling) filling (le_refl (length filling)))

  pub filled : room r ≤ length p
      → append_accepted r p
      ≡ answered r (length p) (length (drop (room r) p) / B + 1)
      (forwards Z (blocks_of Z (drop (room r) p)) (forwards Z (blocks_of Z (held_bytes r ++ filling)) r.chain))
      (held_of (rest_of Z (drop (room r) p)))
  filled le =
      let first : List ℕ = held_bytes r ++ filling in
      let after : List ℕ = drop (room r) p in
      let j : whole ≡ first ++ after = rw (append_assoc, take-append-drop) in
      let l : length first ≡ B = omega (arith, fill-lt r long, held-length r long, length-append (held_bytes r) filling, filling-length le) in
      let a : length whole ≡ 1 * B + length after =
      omega (arith, fill-lt r long, held-length r long, length-append (held_bytes r) p, length-drop (room r) p) in
      let c : length whole / B ≡ length after / B + 1 =
      omega (arith, ap (λ (n : ℕ). n / B) a ∙ mul-add-div_right some 1 (length after)) in
      let one : length first % B ≡ 0 = ap (λ (n : ℕ). n % B) l ∙ mod_self B in
      accepted ∙ rw (c, j, forwards-split Z some first one after r.chain, rest-split Z some first one after)

use mathlib.Core.Path.{◌≡◌, sym, subst}
use mathlib.Core.List.{List}
use Prim.Native.Nat.{ℕ, ◌≤◌}
use native.Mathlib.Omega.{arith}
use lib.ListN.{length}
use borrow.Author.Rules.{rules}
use Rattle.lsh.specs.WordSize.{size_of}
use Rattle.lsh.specs.Block.{Chain}
use Rattle.lsh.proofs.Figures.{amounts}
use Rattle.lsh.proofs.Blocks.{forwards-chain}
use Rattle.limits.specs.Limits.{longest_block, limit}
use Rattle.limits.proofs.Limits.{block-most}
use Rattle.orders.specs.declared.Record.{Record}
use Rattle.orders.proofs.Sound.{Sound, sounds, chain-is}
use Rattle.orders.proofs.Held.{fill-lt}
use Rattle.append.proofs.Appending.{room, first_block, filled}
use Rattle.append.proofs.append_long.Goals as goal
use Rattle.append.proofs.append_long.Goals.{After-held_length-at, Start}

-- at the entry
module _ (z : Start) where
  abbrev R : Record
  R = z.args.r

  abbrev P : List ℕ
  P = z.args.piece.now

  is-sound : Sound R
  is-sound = sounds R z.requires.0

  long : length R.held ≡ longest_block
  long = search rules

  words : length R.chain ≡ 16
  words = search rules

  chain : Chain (size_of R.w) R.chain
  chain = chain-is R.w R.chain is-sound.word words is-sound.below

  room-le : room R ≤ length P
  room-le = omega (arith, z.requires.2)

-- once the size of a block and the place are known
module _ (c : After-held_length-at) where
  abbrev Z : Start
  Z = (goal.at.After-held_length-at c).Start

  place_in : c.held_length-at.result ≤ c.block_bytes-size.result
  place_in = omega (arith, fill-lt (R Z) (long Z))

  size-most : c.block_bytes-size.result ≤ longest_block
  size-most = omega (arith, block-most (R Z).w)

pub overflow_sub-size : goal.overflow_sub-size
overflow_sub-size c = place_in c

pub with_part-first-requires : goal.with_part-first-requires
with_part-first-requires c = let a = (goal.at.with_part-first-requires c).After-held_length-at in
    omega (arith, c.split_at.ensures.front_len, place_in a, size-most a)

pub forward-begun-requires : goal.forward-begun-requires
forward-begun-requires c = let z = Z (goal.at.forward-begun-requires c).After-held_length-at in ((is-sound z).word, chain z)

pub absorb-count-requires : goal.absorb-count-requires
absorb-count-requires c = let z = Z (goal.at.absorb-count-requires c).After-held_length-at in (
  (is-sound z).word,
  subst (Chain (size_of (R z).w)) (sym c.forward-begun.ensures.0)
      (forwards-chain (size_of (R z).w) (amounts (R z).w) _ (R z).chain (chain z)),
)

pub overflow_add-result-2 : goal.overflow_add-result-2
unfolding limit
overflow_add-result-2 c = record { fits = omega (arith, (Z (goal.at.overflow_add-result-2 c).After-held_length-at).requires.1) }

pub returns : goal.returns
returns c = let a = (goal.at.returns c).After-held_length-at in
    let z = Z a in
    let t = c.absorb-count in
    let f = c.forward-begun in
    let u = c.with_part-first in
    let p = c.split_at in
    rw (
      t.ensures.0,
      t.ensures.1,
      t.ensures.2,
      f.ensures.0,
      u.ensures,
      p.ensures.front,
      p.ensures.back,
      a.block_bytes-size.ensures,
      a.held_length-at.ensures,
      first_block (R z) z.requires.0 (long z) (P z) (room-le z),
    )
    (sym (filled (R z) z.requires.0 (long z) (P z) (room-le z)))

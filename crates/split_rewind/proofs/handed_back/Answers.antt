use mathlib.Core.Path.{◌≡◌}
use Prim.Native.Nat.{◌/◌, ◌<◌}
use native.Mathlib.Nat.{div-le_self}
use native.Mathlib.Omega.{arith}
use lib.ListN.{length}
use borrow.Author.Rules.{rules}
use Rattle.lsh.specs.WordSize.{size_of, block_bytes}
use Rattle.limits.specs.Limits.{limit}
use Rattle.limits.proofs.Limits.{block-most}
use Rattle.orders.specs.declared.Record.{Record}
use Rattle.orders.proofs.Sound.{sounds}
use Rattle.orders.proofs.HandBacks.{a_block, second-chain}
use Rattle.split_rewind.proofs.handed_back.Goals as goal
use Rattle.split_rewind.proofs.handed_back.Goals.{Start}

module _ (z : Start) where
  abbrev R : Record
  R = z.args.r

  words : length R.split.second ≡ 16
  words = search rules

  block : (length z.args.block.now ≡ block_bytes (size_of R.w)) × (R.split.blocks < R.total / block_bytes (size_of R.w))
  block = a_block (block_bytes (size_of R.w)) R.total R.split.blocks (length z.args.block.now) z.requires.2

pub backward-requires : goal.backward-requires
backward-requires c = let z = (goal.at.backward-requires c).Start in
    ((sounds (R z) z.requires.0).word, second-chain (R z) z.requires.0 z.requires.1 (words z))

pub zero_filled-requires : goal.zero_filled-requires
zero_filled-requires c = let z = (goal.at.zero_filled-requires c).Start in omega (arith, (block z).0, block-most (R z).w)

pub overflow_add-result : goal.overflow_add-result
unfolding limit
overflow_add-result c = let z = (goal.at.overflow_add-result c).Start in
    record { fits = omega (arith, (block z).1, div-le_self (R z).total (block_bytes (size_of (R z).w)), (sounds (R z) z.requires.0).few) }

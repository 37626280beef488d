-- The record after a piece within the limit is sound.
-- Assumes nothing.
use mathlib.Core.Path.{◌≡◌, sym}
use mathlib.Core.Bool.{true, false}
use mathlib.Core.List.{List, ◌++◌}
use Prim.Native.Nat.{ℕ, ◌+◌, ◌≤◌}
use native.Mathlib.Nat.{le_of_eq}
use lib.ListN.{length}
use Rattle.lists.proofs.Lists.{filled_zero}
use Rattle.lsh.specs.WordSize.{WordSize, size_of}
use Rattle.lsh.specs.Block.{Chain}
use Rattle.lsh.specs.Padding.{blocks_of, rest_of}
use Rattle.lsh.proofs.Figures.{amounts}
use Rattle.lsh.proofs.Blocks.{forwards-chain}
use Rattle.limits.specs.Limits.{longest_block, limit}
use Rattle.orders.specs.declared.Record.{Record}
use Rattle.orders.specs.Record.{held_of, held_bytes, sound, is_begun}
use Rattle.orders.proofs.Sound.{Sound, sounds, is-sound, chain-is, chain-below}
use Rattle.orders.proofs.Begun.{none-sound}
use Rattle.orders.specs.Append.{appended}
use Rattle.orders.proofs.AfterPiece.{rest-length}

module _ (r : Record) (ok : sound r ≡ true) (words : length r.chain ≡ 16) (long : length r.held ≡ longest_block) (p : List ℕ) where
  abbrev Z : WordSize
  Z = size_of r.w

  is : Sound r
  is = sounds r ok

  pub appended-chain : Chain Z (appended r p).chain
  unfolding appended
  appended-chain =
      forwards-chain Z (amounts r.w) (blocks_of Z (held_bytes r ++ p)) r.chain (chain-is r.w r.chain is.word words is.below)

  pub appended-sound : is_begun r ≡ false → r.total + length p ≤ limit → sound (appended r p) ≡ true
  unfolding appended held_of
  appended-sound idle within =
      is-sound (appended r p)
      (record {
        word = is.word;
        digest_length = is.digest_length;
        few = within;
        below = chain-below r.w (appended r p).chain is.word appended-chain;
        zero = filled_zero longest_block (rest_of Z (held_bytes r ++ p)) _ (le_of_eq (sym (rest-length r long p)));
        split = none-sound r ok idle (r.total + length p) (appended r p).chain;
      })

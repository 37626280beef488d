-- The bytes that a sound record holds, as bytes and as fewer than a block, and its chain.
-- Assumes nothing.
use mathlib.Core.Path.{◌≡◌}
use mathlib.Core.Bool.{true}
use Prim.Native.Nat.{◌<◌}
use native.Mathlib.Omega.{arith}
use lib.ListN.{length}
use Rattle.lsh.specs.WordSize.{size_of, block_bytes}
use Rattle.lsh.specs.Block.{Chain}
use Rattle.lsh.specs.ByteString.{Bytes}
use Rattle.lsh.proofs.Bytes.{bytes_take}
use Rattle.limits.specs.Limits.{longest_block}
use Rattle.orders.specs.declared.Record.{Record}
use Rattle.orders.specs.Record.{held_length, sound, held_bytes}
use Rattle.orders.proofs.Sound.{sounds, chain-is}
use Rattle.orders.proofs.Held.{fill-lt, held-length}

module _ (r : Record) where
  pub Bytes-held : Bytes r.held → Bytes (held_bytes r)
  unfolding held_bytes
  Bytes-held h = bytes_take (held_length r.w r.total) r.held h

  pub held-short : length r.held ≡ longest_block → length (held_bytes r) < block_bytes (size_of r.w)
  held-short long = omega (arith, held-length r long, fill-lt r long)

  pub chain-sound : sound r ≡ true → length r.chain ≡ 16 → Chain (size_of r.w) r.chain
  chain-sound ok words = chain-is r.w r.chain (sounds r ok).word words (sounds r ok).below

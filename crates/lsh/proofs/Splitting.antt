-- Whole blocks and bytes after them: the blocks and the rest of both are those of each.
-- Assumes nothing.
use mathlib.Core.Path.{◌≡◌, ap, ◌∙◌}
use mathlib.Core.List.{List, [], ◌++◌, append-nil}
use Prim.Native.Nat.{ℕ, ◌%◌, ◌<◌}
use lib.ListN.{length}
use Rattle.lsh.specs.WordSize.{WordSize, block_bytes}
use Rattle.lsh.specs.Block.{forwards}
use Rattle.lsh.specs.Padding.{blocks_of, rest_of}
use Rattle.lsh.proofs.Blocks.{forwards-append}
use Rattle.lsh.proofs.Padding.{blocks-append, rest-append, rest-none, blocks-short, rest-short}

module _ (z : WordSize) (some : 0 < block_bytes z) (a : List ℕ) (whole : length a % block_bytes z ≡ 0) (h : List ℕ) where
  none : rest_of z a ≡ []
  none = rest-none z some a whole

  pub blocks-split : blocks_of z (a ++ h) ≡ blocks_of z a ++ blocks_of z h
  blocks-split = rw (blocks-append z some a h, none)

  -- so a run over both is one over each
  pub forwards-split : (t : List ℕ) → forwards z (blocks_of z (a ++ h)) t ≡ forwards z (blocks_of z h) (forwards z (blocks_of z a) t)
  forwards-split t = rw blocks-split (forwards-append z (blocks_of z a) (blocks_of z h) t)

  pub rest-split : rest_of z (a ++ h) ≡ rest_of z h
  rest-split = rw (rest-append z some a h, none)

  -- bytes that fill no block
  pub blocks-kept : length h < block_bytes z → blocks_of z (a ++ h) ≡ blocks_of z a
  blocks-kept short = blocks-split ∙ ap (λ (bs : List (List ℕ)). blocks_of z a ++ bs) (blocks-short z some h short) ∙ append-nil (blocks_of z a)

  pub rest-kept : length h < block_bytes z → rest_of z (a ++ h) ≡ h
  rest-kept short = rest-split ∙ rest-short z some h short

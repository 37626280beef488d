use native.Mathlib.Omega.{arith}
use borrow.Author.Rules.{rules}
use Rattle.lsh.specs.WordSize.{lsh256}
use Rattle.lsh.proofs.Bytes.{length-words}
use Rattle.loops.specs.Rows.{expanded_words}
use Rattle.loops.proofs.Ahead.{ahead-stored}
use Rattle.groups256.proofs.forward_block.Goals as goal

pub returns : goal.returns
unfolding lsh256 expanded_words
returns c = ahead-stored lsh256 _ _ _ _ (length-words lsh256 32 _) (omega arith) c.load_block.ensures c.all_steps.ensures

pub load_block-requires : goal.load_block-requires
unfolding lsh256 expanded_words
load_block-requires c = search rules

use mathlib.Core.Path.{refl}
use native.Mathlib.Omega.{arith}
use borrow.Author.Rules.{rules}
use Rattle.lsh.specs.WordSize.{lsh256}
use Rattle.lsh.proofs.Bytes.{length-words}
use Rattle.loops.specs.Rows.{expanded_words}
use Rattle.loops.proofs.Rows.{expanded-stored}
use Rattle.loops.proofs.Turns.{unstepped-none, run-back}
use Rattle.groups256.proofs.backward_block.Goals as goal

pub returns : goal.returns
unfolding lsh256 expanded_words
returns c = run-back (expanded-stored _ _ (length-words lsh256 32 _) (omega arith) c.load_block.ensures c.expand.ensures) refl _
    (c.all_unsteps.ensures _ (unstepped-none _ c.sub_message.ensures c.add_message-r.ensures))

pub load_block-requires : goal.load_block-requires
unfolding lsh256 expanded_words
load_block-requires c = search rules

pub expand-requires : goal.expand-requires
unfolding lsh256 expanded_words
expand-requires c = (search rules, (search rules, c.requires.3, c.requires.4, c.sub_message-last.ensures, c.sub_message-before.ensures))

pub sub_message-requires : goal.sub_message-requires
unfolding lsh256 expanded_words
sub_message-requires c = search rules

pub sub_message-before-requires : goal.sub_message-before-requires
unfolding lsh256 expanded_words
sub_message-before-requires c = (omega arith, omega (arith, c.load_block.auto.m))

pub sub_message-last-requires : goal.sub_message-last-requires
unfolding lsh256 expanded_words
sub_message-last-requires c = (omega arith, omega (arith, c.load_block.auto.m))

use native.Mathlib.Omega.{arith}
use Rattle.lsh.specs.WordSize.{lsh256}
use Rattle.loops.specs.Rows.{expanded_words}
use Rattle.loops.proofs.Ahead.{ahead_none, ahead-all}
use Rattle.groups256.proofs.all_steps.Goals as goal

pub loop-j-init : goal.loop-j-init
unfolding lsh256 expanded_words
loop-j-init c = (ahead_none lsh256 _ _ (omega arith), omega arith)

pub even_step-e-requires : goal.even_step-e-requires
unfolding lsh256 expanded_words
even_step-e-requires c = (c.requires.0, c.requires.1, omega arith, omega (arith, c.loop-j.invariant.0.len))

pub odd_steps-o-requires : goal.odd_steps-o-requires
unfolding lsh256 expanded_words
odd_steps-o-requires c = (c.requires.0, c.requires.1, c.requires.3, omega (arith, c.even_step-e.ensures.1), omega (arith, (c.even_step-e.ensures.0 _ _ c.loop-j.invariant.0).len))

pub loop-j-smaller : goal.loop-j-smaller
unfolding lsh256 expanded_words
loop-j-smaller c = omega (arith, c.odd_steps-o.ensures.1, c.even_step-e.ensures.1)

pub loop-j-preserved : goal.loop-j-preserved
unfolding lsh256 expanded_words
loop-j-preserved c = (c.odd_steps-o.ensures.0 _ _ (c.even_step-e.ensures.0 _ _ c.loop-j.invariant.0), omega (arith, c.odd_steps-o.ensures.1))

pub sub_message-requires : goal.sub_message-requires
unfolding lsh256 expanded_words
sub_message-requires c = omega (arith, c.loop-j.invariant.0.len)

pub shape_of-m : goal.shape_of-m
unfolding lsh256 expanded_words
shape_of-m c = c.loop-j.invariant.0.len

pub returns : goal.returns
unfolding lsh256 expanded_words
returns c = ahead-all _ c.loop-j.invariant.0 (omega arith) c.sub_message.ensures c.add_message.ensures

use native.Mathlib.Omega.{arith}
use borrow.Author.Rules.{rules}
use Rattle.loops.specs.Rows.{expanded_words}
use Rattle.loops.proofs.Turns.{stepped-none, stepped-is, stepped-one, stepped-all}
use Rattle.word.proofs.Sizes.{sized}
use Rattle.words.proofs.some_steps.Goals as goal

pub loop-k-init : goal.loop-k-init
loop-k-init g c = (stepped-none g.W.Word.size _ _ _, omega arith)

pub overflow_add-k-end : goal.overflow_add-k-end
overflow_add-k-end g c = search (arith, (sized g.met.W.Word.is_size).most, c.requires.2)

pub sub_message-requires : goal.sub_message-requires
unfolding expanded_words
sub_message-requires g c = (search rules, omega (arith, c.requires.1, c.requires.2))

pub sub_message-requires-in-loop-k : goal.sub_message-requires-in-loop-k
unfolding expanded_words
sub_message-requires-in-loop-k g c = (search rules, omega (arith, c.requires.1, c.requires.2))

pub sub_message-requires-then-i-steps : goal.sub_message-requires-then-i-steps
unfolding expanded_words
sub_message-requires-then-i-steps g c = (search rules, omega (arith, c.requires.1, c.requires.2))

pub sub_message-requires-2 : goal.sub_message-requires-2
unfolding expanded_words
sub_message-requires-2 g c = (search rules, omega (arith, c.requires.1, c.requires.2))

pub returns-then-i-steps : goal.returns-then-i-steps
returns-then-i-steps g c = stepped-all (stepped-one c.loop-k.invariant.0 (omega arith) c.sub_message.ensures c.step-u.ensures) (omega arith) c.sub_message-then-i-steps.ensures c.add_message.ensures

pub loop-k-preserved : goal.loop-k-preserved
loop-k-preserved g c = (stepped-is (stepped-one (stepped-one c.loop-k.invariant.0 (omega arith) c.sub_message.ensures c.step-u.ensures) (omega arith) c.sub_message-in-loop-k.ensures c.step-v.ensures) (omega arith), omega arith)

pub returns : goal.returns
returns g c = stepped-all c.loop-k.invariant.0 (omega arith) c.sub_message-2.ensures c.add_message-2.ensures

use native.Mathlib.Omega.{arith}
use borrow.Author.Rules.{rules}
use Rattle.loops.specs.Rows.{expanded_words}
use Rattle.loops.proofs.Turns.{unstepped-none, unstepped-is, unstepped-one}
use Rattle.words.proofs.last_unstep.Goals as goal

pub sub_message-requires : goal.sub_message-requires
unfolding expanded_words
sub_message-requires g c = (search rules, omega (arith, c.requires.1, c.requires.2))

pub sub_message-requires-2 : goal.sub_message-requires-2
unfolding expanded_words
sub_message-requires-2 g c = (search rules, omega (arith, c.requires.1, c.requires.2))

pub returns-then-steps-eq0 : goal.returns-then-steps-eq0
returns-then-steps-eq0 g c = unstepped-is (unstepped-none _ c.sub_message.ensures c.add_message-r.ensures) (omega arith)

pub returns : goal.returns
returns g c = unstepped-is (unstepped-one (unstepped-is (unstepped-none _ c.sub_message.ensures c.add_message-r.ensures) (omega arith)) (omega arith) c.sub_message-2.ensures c.unstep.ensures) (omega arith)

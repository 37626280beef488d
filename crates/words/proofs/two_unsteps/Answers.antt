use native.Mathlib.Omega.{arith}
use borrow.Author.Rules.{rules}
use Rattle.loops.specs.Rows.{expanded_words}
use Rattle.word.proofs.Sizes.{sized}
use Rattle.words.proofs.two_unsteps.Goals as goal

pub overflow_add-j : goal.overflow_add-j
overflow_add-j g c = search (arith, (sized g.met.W.Word.is_size).most, c.requires.2)

pub overflow_add-j-2 : goal.overflow_add-j-2
overflow_add-j-2 g c = search (arith, (sized g.met.W.Word.is_size).most, c.requires.2)

pub sub_message-requires : goal.sub_message-requires
unfolding expanded_words
sub_message-requires g c = (search rules, omega (arith, c.requires.1, c.requires.2))

pub sub_message-requires-2 : goal.sub_message-requires-2
unfolding expanded_words
sub_message-requires-2 g c = (search rules, omega (arith, c.requires.1, c.requires.2))

pub returns : goal.returns
returns g c = rw (c.unstep.ensures, c.sub_message-2.ensures, c.unstep-u.ensures, c.sub_message.ensures)

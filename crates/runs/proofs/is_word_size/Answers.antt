use borrow.Author.Tests.{ne_eqb}
use Rattle.lsh.specs.WordSize.{is_word_size}
use Rattle.runs.proofs.is_word_size.Goals as goal

pub returns-then-w-eq32 : goal.returns-then-w-eq32
unfolding is_word_size
returns-then-w-eq32 c = rw c.if-w-eq32.true

pub returns : goal.returns
unfolding is_word_size
returns c = rw (ne_eqb _ 32 c.if-w-eq32.false)

use mathlib.Core.Path.{ap, ◌∙◌}
use borrow.Author.Tests.{ne_eqb}
use Rattle.lsh.proofs.Figures.{bits_are}
use Rattle.limits.specs.Limits.{longest_digest, is_digest_length}
use Rattle.runs.proofs.is_digest_length.Goals as goal

pub returns-then-n-eq0 : goal.returns-then-n-eq0
unfolding is_digest_length
returns-then-n-eq0 c = rw c.if-n-eq0.true

pub returns : goal.returns
unfolding is_digest_length
returns c = rw (ne_eqb _ 0 c.if-n-eq0.false, c.longest_digest.ensures ∙ ap longest_digest (bits_are _ c.requires))

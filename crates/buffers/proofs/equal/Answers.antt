-- `buffers::equal` meets its contract. Assumes nothing.
use mathlib.Core.Path.{◌∙◌}
use Rattle.buffers.proofs.Folds.{fold_same}
use Rattle.buffers.proofs.equal.Goals as goal

pub returns : goal.returns
returns g c = c.each_same.ensures ∙ fold_same g.T.PartialEq.eq c.args.a.now c.args.b.now c.if-a-b.false

use mathlib.Core.Path.{◌∙◌}
use mathlib.Core.Bool.{Bool, true, ◌&&◌}
use Prim.Native.Nat.{ℕ}
use lib.Dec.{eqb}
use Rattle.std.proofs.Common.{rules, tests}
use Rattle.std.proofs.lemmas.Iterator.{YieldsList-from_slice}
use Rattle.std.proofs.lemmas.Iterator.Consumers.{fold_from_yields_List}
use Rattle.buffers.proofs.Folds.{fold-zero}
use Rattle.record.proofs.words_zero.Goals as goal

pub returns : goal.returns
returns c =
    fold_from_yields_List _ (λ (z : Bool) (x : ℕ). z && eqb x 0) true c.fold.result c.fold.ensures.ran (YieldsList-from_slice c.args.t cc) (λ a x b q k. search (rules, tests))
    ∙ fold-zero c.args.t

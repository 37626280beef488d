-- `buffers::zero_from` meets its contract. Assumes nothing.
use mathlib.Core.Path.{ap, ◌∙◌}
use Prim.Native.Nat.{ℕ, ◌-◌}
use native.Mathlib.Nat.{le_of_eq}
use lib.ListN.{length, drop, take, length-drop}
use Rattle.std.proofs.lemmas.List.{take_all, drop_min}
use Rattle.lists.specs.Lists.{all_zero}
use Rattle.buffers.proofs.Folds.{fold-zero}
use Rattle.buffers.proofs.zero_from.Goals as goal

pub returns : goal.returns
returns c =
    let s = c.args.s.now in
    let m = c.min-from.result in
    c.each_zero.ensures
    ∙ fold-zero (take (length s - m) (drop m s))
    ∙ ap all_zero (take_all (length s - m) (drop m s) (le_of_eq (length-drop m s)) ∙ ap (λ (k : ℕ). drop k s) c.min-from.ensures ∙ drop_min c.args.at s)

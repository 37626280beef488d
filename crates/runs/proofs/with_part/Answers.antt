use mathlib.Core.Path.{◌≡◌, sym, ap, ◌∙◌}
use mathlib.Core.List.{List, ◌++◌}
use Prim.Native.Nat.{ℕ, ◌+◌}
use native.Mathlib.Nat.{le_refl}
use native.Mathlib.Omega.{arith}
use lib.ListN.{length, take, drop}
use lib.Seq.{sets-eq, take_all}
use borrow.Author.Rules.{rules}
use Rattle.limits.specs.Limits.{longest_block}
use Rattle.runs.proofs.with_part.Goals as goal

pub returns : goal.returns
returns c = let long : length c.args.block ≡ longest_block = search rules in
    let p = c.args.part.now in
    c.put.ensures.1
    ∙ sets-eq p c.args.block c.args.at (omega (arith, c.requires))
    ∙ ap (λ (s : List ℕ). take c.args.at c.args.block ++ s ++ drop (c.args.at + length p) c.args.block) (sym (take_all (length p) p (le_refl (length p))))

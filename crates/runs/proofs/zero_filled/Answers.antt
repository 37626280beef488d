use mathlib.Core.Path.{ap, ◌∙◌}
use mathlib.Core.List.{List}
use Prim.Native.Nat.{ℕ}
use lib.ListN.{length}
use lib.Seq.{paste}
use Rattle.lists.proofs.Lists.{into-zeros}
use Rattle.limits.specs.Limits.{longest_block}
use Rattle.runs.proofs.zero_filled.Goals as goal

pub returns : goal.returns
returns c = let p : List ℕ = c.args.part.now in
    c.with_part.ensures ∙ ap (λ (z : List ℕ). paste z 0 p (length p)) c.zero_bytes.ensures ∙ into-zeros longest_block p

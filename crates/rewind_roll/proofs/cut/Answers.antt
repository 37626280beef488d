use mathlib.Core.Path.{ap, ◌∙◌}
use Prim.Native.Nat.{ℕ}
use Rattle.lsh.specs.WordSize.{size_of}
use Rattle.checkpoints.specs.Checkpoints.{unlinked}
use Rattle.rewind_roll.proofs.After.{cut-accepted, cut-refused}
use Rattle.rewind_roll.proofs.cut.Goals as goal
use Rattle.rewind_roll.proofs.cut.Goals.{in-Ok, in-Err}

pub returns : goal.returns
returns c r =
    elim c.match-given.branch [
      | in-Ok w ↦ c.unlink.ensures ∙ ap (λ (m : ℕ). unlinked (size_of c.args.w) m c.args.roll.now) (w.left-is ∙ w.checkpoints.ensures) ∙ cut-accepted c.args.w r c.args.given.now _ c.args.roll.now w.in-Ok.is
      | in-Err w ↦ c.unlink.ensures ∙ ap (λ (m : ℕ). unlinked (size_of c.args.w) m c.args.roll.now) (w.left-is ∙ c.requires.1) ∙ cut-refused c.args.w r c.args.given.now _ c.args.roll.now w.in-Err.is
    ]

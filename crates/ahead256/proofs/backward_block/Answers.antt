use mathlib.Core.Path.{ap, ◌∙◌}
use native.Mathlib.Nat.{le_refl}
use native.Mathlib.Omega.{arith}
use Rattle.lsh.specs.WordSize.{lsh256}
use Rattle.lsh.specs.Step.{add_message}
use Rattle.lsh.specs.Block.{unsteps, backward_steps}
use Rattle.loops.specs.Rows.{expanded_words}
use Rattle.ahead256.proofs.backward_block.Goals as goal

pub returns : goal.returns
unfolding lsh256 expanded_words backward_steps
returns c = (
  λ b e.
      c.all_unsteps.ensures.1 b e
      ∙ ap (unsteps lsh256 b c.args.steps) (c.add_message-r.ensures ∙ ap (add_message lsh256 c.args.t) (c.sub_message.ensures ∙ e.rows c.args.steps (le_refl _))),
  c.all_unsteps.ensures.2,
)

pub overflow_add-k : goal.overflow_add-k
unfolding lsh256 expanded_words backward_steps
overflow_add-k c = omega arith

pub sub_message-requires : goal.sub_message-requires
unfolding lsh256 expanded_words backward_steps
sub_message-requires c = omega arith

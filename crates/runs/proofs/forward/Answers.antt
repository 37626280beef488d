-- `runs::forward` meets its contract, by the word size. Assumes nothing.
use mathlib.Core.Path.{refl, ◌∙◌, subst}
use Prim.Native.Nat.{◌<◌, ◌^◌}
use native.Mathlib.Omega.{arith}
use Rattle.lsh.specs.Tabulate.{at}
use Rattle.lsh.specs.WordSize.{WordSize, lsh256}
use Rattle.lsh.specs.Block.{forwards}
use Rattle.lsh.proofs.Figures.{size_32, size_64}
use Rattle.runs.proofs.Sizes.{run_by, run_none}
use Rattle.runs.proofs.forward.Goals as goal

pub returns-then-s-block_bytes : goal.returns-then-s-block_bytes
unfolding forwards
returns-then-s-block_bytes c = run_none forwards _ c.args.s.now _ refl (omega arith)

pub narrow-requires : goal.narrow-requires
unfolding lsh256
narrow-requires c l = subst (λ (z : WordSize). at c.args.t l < 2 ^ z.bits) (size_32 c.if-w-eq32.true) (c.requires.1.below l)

pub returns-then-w-eq32 : goal.returns-then-w-eq32
returns-then-w-eq32 c =
    run_by forwards _ _ (size_32 c.if-w-eq32.true) c.narrow.ensures (c.widened.ensures.0 ∙ c.forward_at.ensures.0, c.widened.ensures.1 ∙ c.forward_at.ensures.1)

pub returns : goal.returns
returns c = run_by forwards _ _ (size_64 _ c.requires.0 c.if-w-eq32.false) refl c.forward_at-2.ensures

-- `append_roll::next_part` visits its contract. Assumes nothing.
use mathlib.Core.Path.{sym, ap, subst}
use native.Mathlib.Nat.{div-le_self}
use native.Mathlib.Omega.{arith}
use lib.ListN.{length}
use Rattle.lsh.specs.WordSize.{size_of, block_bytes}
use Rattle.lsh.specs.Block.{Chain}
use Rattle.lsh.proofs.Figures.{amounts}
use Rattle.lsh.proofs.Blocks.{forwards-chain}
use Rattle.limits.specs.Limits.{limit}
use Rattle.roll.specs.declared.Traversal.{Traversal}
use Rattle.roll.proofs.Walked.{known-roll}
use Rattle.append_roll.proofs.next_part.Goals as goal

pub overflow_add-result : goal.overflow_add-result
unfolding limit
overflow_add-result c = record { fits = omega (arith, c.requires.2, c.forward-run.ensures.1, div-le_self (length c.args.part.now) (block_bytes (size_of c.args.w))) }

pub insert-requires : goal.insert-requires
insert-requires c = let k = known-roll _ _ c.requires.3 in (
  c.requires.0,
  subst (Chain (size_of c.args.w)) (sym c.forward-run.ensures.0) (forwards-chain (size_of c.args.w) (amounts c.args.w) _ c.args.p.chain c.requires.1),
  c.requires.3,
  omega (arith, ap (λ (y : Traversal). y.count) k.traversal, ap (λ (y : Traversal). y.slots) k.traversal, c.requires.4),
)

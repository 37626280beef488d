use mathlib.Core.Path.{◌≡◌, sym}
use native.Mathlib.Omega.{arith}
use lib.ListN.{length}
use borrow.Author.Rules.{rules}
use Rattle.limits.specs.Limits.{longest_block, limit}
use Rattle.limits.proofs.Limits.{block-most}
use Rattle.append.proofs.Appending.{short}
use Rattle.append.proofs.append_short.Goals as goal
use Rattle.append.proofs.append_short.Goals.{Start}

long : (z : Start) → length z.args.r.held ≡ longest_block
long z = search rules

pub overflow_add-result : goal.overflow_add-result
unfolding limit
overflow_add-result c = record { fits = omega (arith, c.requires.1) }

pub returns : goal.returns
returns c = let z = (goal.at.returns c).Start in
    rw (c.with_part-held.ensures, c.held_length-at.ensures) (sym (short z.args.r z.requires.0 (long z) z.args.piece.now z.requires.2))

pub with_part-held-requires : goal.with_part-held-requires
with_part-held-requires c = omega (arith, c.held_length-at.ensures, c.requires.2, block-most c.args.r.w)

-- `append::accepted` meets its contract, by how the piece goes. Assumes nothing.
use native.Mathlib.Nat.{mod-le}
use native.Mathlib.Omega.{arith}
use Rattle.lsh.specs.WordSize.{size_of, block_bytes}
use Rattle.limits.specs.Limits.{limit}
use Rattle.append.proofs.accepted.Goals as goal

pub overflow_add-at : goal.overflow_add-at
unfolding limit
overflow_add-at c = record { fits = omega (arith, c.requires.1, c.held_length-at.ensures, mod-le c.args.r.total (block_bytes (size_of c.args.r.w))) }

use native.Mathlib.Omega.{arith}
use Prim.Native.Nat.{◌-◌}
use Rattle.lsh.specs.WordSize.{lsh256, block_bytes}
use Rattle.lsh.proofs.Bytes.{length-words}
use Rattle.loops.proofs.Runs.{length_part}
use Rattle.loops.proofs.Halves.{kept-none, loaded-kept, loaded-rows}
use Rattle.ahead256.proofs.load_before.Goals as goal

pub load-requires : goal.load-requires
unfolding lsh256 block_bytes
load-requires c = (omega arith, length_part lsh256 c.args.s.now (c.args.i - 1) (omega arith))

pub returns-then-i-gt0 : goal.returns-then-i-gt0
unfolding lsh256 block_bytes
returns-then-i-gt0 c = (loaded-kept _ _ _ _ c.load.ensures (omega arith), λ some. loaded-rows lsh256 _ _ _ (length-words lsh256 32 _) (omega arith) c.load.ensures)

pub returns-else-i-gt0 : goal.returns-else-i-gt0
unfolding lsh256 block_bytes
returns-else-i-gt0 c = (kept-none _ _ _, λ some. absurd (omega arith))

pub overflow_add-e : goal.overflow_add-e
unfolding lsh256 block_bytes
overflow_add-e c = omega arith

pub overflow_mul-a : goal.overflow_mul-a
unfolding lsh256 block_bytes
overflow_mul-a c = omega arith

pub slice_bounds-load-end : goal.slice_bounds-load-end
unfolding lsh256 block_bytes
slice_bounds-load-end c = omega arith

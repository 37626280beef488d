use mathlib.Core.Path.{◌≡◌}
use mathlib.Core.Bool.{false}
use Prim.Native.Nat.{◌+◌}
use native.Mathlib.Omega.{arith}
use borrow.Author.Tests.{le-ltb}
use lib.Dec.{ltb}
use Rattle.lsh.specs.WordSize.{size_of, block_bytes}
use Rattle.limits.specs.Limits.{limit}
use Rattle.limits.proofs.Limits.{block-most}
use Rattle.tags.specs.KeyAnswer.{is_whole_bytes, key_answer}
use Rattle.tag_answers.proofs.key_answer.Goals as goal

pub overflow_sub-block_bytes : goal.overflow_sub-block_bytes
overflow_sub-block_bytes c = omega (arith, c.block_bytes.ensures, block-most c.args.w)

pub returns : goal.returns
unfolding key_answer is_whole_bytes limit
returns c = let fits : ltb limit (block_bytes (size_of c.args.w) + c.args.message) ≡ false = le-ltb _ _ (omega (arith, c.block_bytes.ensures, block-most c.args.w)) in
    grind (arith, fits)

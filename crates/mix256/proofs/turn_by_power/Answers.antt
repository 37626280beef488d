use mathlib.Core.Path.{◌∙◌}
use borrow.Author.Rules.{rules}
use lib.Pow.{shr_lt}
use Rattle.loops.proofs.Machine.{product_lt, product_is}
use Rattle.lsh.specs.WordSize.{lsh256}
use Rattle.mix256.proofs.turn_by_power.Goals as goal

pub overflow_mul-q : goal.overflow_mul-q
unfolding lsh256
overflow_mul-q c = record { fits = product_lt 32 (search rules) (search rules) }

pub overflow_cast-q-2 : goal.overflow_cast-q-2
unfolding lsh256
overflow_cast-q-2 c = record { fits = shr_lt 32 32 (product_lt 32 (search rules) (search rules)) }

pub returns : goal.returns
unfolding lsh256
returns c k hk e = c.add.ensures ∙ product_is 32 k c.args.x c.wide.ensures.0 e hk (search rules)

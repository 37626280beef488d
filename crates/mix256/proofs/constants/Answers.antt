use mathlib.Core.Path.{◌∙◌}
use native.Mathlib.Omega.{arith}
use Rattle.lsh.specs.WordSize.{lsh256}
use Rattle.lsh.proofs.Tabulate.{tabulate-cong}
use Rattle.loops.proofs.Constants.{at_constant}
use Rattle.word.specs.Own.{own}
use Rattle.steps.proofs.Amounts.{constant_inside}
use Rattle.mix256.proofs.constants.Goals as goal

pub overflow_mul-j : goal.overflow_mul-j
unfolding lsh256
overflow_mul-j c = search (arith, c.requires.1)

pub part-requires : goal.part-requires
unfolding lsh256
part-requires c = (omega arith, omega (arith, constant_inside own lsh256 c.args.sc.now c.requires.0 {l = 7} c.requires.1 (omega arith)))

pub returns : goal.returns
returns c = c.part.ensures ∙ tabulate-cong 8 _ _ (λ l hl. at_constant lsh256 c.args.sc.now c.requires.0 c.args.j l c.requires.1 hl)

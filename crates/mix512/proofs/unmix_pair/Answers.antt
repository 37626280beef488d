use mathlib.Core.Path.{◌∙◌}
use Prim.Native.Nat.{◌+◌, ◌*◌, ◌<◌}
use native.Mathlib.Omega.{arith}
use borrow.Author.Rules.{rules}
use Rattle.lsh.specs.WordSize.{lsh512}
use Rattle.lsh.proofs.Figures.{amounts512}
use Rattle.loops.specs.Fours.{four}
use Rattle.loops.proofs.Groups.{four-constants}
use Rattle.loops.proofs.Pairs.{gamma-below, unmixed-pair}
use Rattle.word.specs.Own.{own}
use Rattle.steps.proofs.Amounts.{constant_inside}
use Rattle.mix512.proofs.unmix_pair.Goals as goal

pub unmix_word-p-requires : goal.unmix_word-p-requires
unfolding lsh512
unmix_word-p-requires c = (gamma-below amounts512 _ c.gamma-g.ensures 0, search rules)

pub unmix_word-q-requires : goal.unmix_word-q-requires
unfolding lsh512
unmix_word-q-requires c = (gamma-below amounts512 _ c.gamma-g.ensures 1, search rules)

pub unmix_word-r-requires : goal.unmix_word-r-requires
unfolding lsh512
unmix_word-r-requires c = (gamma-below amounts512 _ c.gamma-g.ensures 2, search rules)

pub unmix_word-s-requires : goal.unmix_word-s-requires
unfolding lsh512
unmix_word-s-requires c = (gamma-below amounts512 _ c.gamma-g.ensures 3, search rules)

pub returns : goal.returns
unfolding lsh512 four
returns c = unmixed-pair lsh512 _ _ _ _ c.gamma-g.ensures (c.part-c.ensures ∙ four-constants lsh512 c.args.sc.now c.requires.0 _ _ c.requires.1 c.requires.2)
    c.unmix_word-p.ensures c.unmix_word-q.ensures c.unmix_word-r.ensures c.unmix_word-s.ensures

pub part-c-requires : goal.part-c-requires
unfolding lsh512
part-c-requires c =
    let last : c.args.l * 4 + 3 < 8 = omega (arith, c.requires.2) in
    omega (arith, constant_inside own lsh512 c.args.sc.now c.requires.0 c.requires.1 last)

pub overflow_add-j : goal.overflow_add-j
unfolding lsh512
overflow_add-j c = omega arith

pub overflow_mul-j : goal.overflow_mul-j
unfolding lsh512
overflow_mul-j c = omega arith

use mathlib.Core.Path.{ap₂, ◌∙◌}
use mathlib.Core.List.{List}
use Prim.Native.Nat.{ℕ}
use native.Mathlib.Omega.{arith}
use Rattle.lsh.specs.WordSize.{lsh256}
use Rattle.groups.specs.GroupStep.{pair, unmix_pair}
use Rattle.loops.specs.Fours.{four}
use Rattle.loops.proofs.Groups.{four-of-row, unmixed-by-groups}
use Rattle.mix256.proofs.unmix.Goals as goal

pub unmix_pair-p-requires : goal.unmix_pair-p-requires
unfolding four
unmix_pair-p-requires c = (c.part.ensures ∙ four-of-row lsh256 c.args.c c.args.j c.requires.0 0 (omega arith), c.requires.1, c.requires.2, omega arith)

pub unmix_pair-q-requires : goal.unmix_pair-q-requires
unfolding four
unmix_pair-q-requires c = (c.part-4.ensures ∙ four-of-row lsh256 c.args.c c.args.j c.requires.0 1 (omega arith), c.requires.1, c.requires.2, omega arith)

pub returns : goal.returns
unfolding four
returns c = unmixed-by-groups lsh256 c.args.j c.args.t c.in_words.ensures
    (c.unmix_pair-p.ensures ∙ ap₂ (λ (x y : List ℕ). unmix_pair lsh256 c.args.j 0 (pair x y)) c.part-2.ensures c.part-3.ensures)
    (c.unmix_pair-q.ensures ∙ ap₂ (λ (x y : List ℕ). unmix_pair lsh256 c.args.j 1 (pair x y)) c.part-5.ensures c.part-6.ensures)

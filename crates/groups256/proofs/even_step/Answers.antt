use mathlib.Core.Path.{◌≡◌, ap, ◌∙◌}
use native.Mathlib.Omega.{arith}
use lib.ListN.{length}
use lib.Seq.{length-sets}
use Rattle.lsh.specs.WordSize.{lsh256}
use Rattle.loops.specs.Rows.{expanded_words}
use Rattle.loops.proofs.Ahead.{ahead_more}
use Rattle.groups256.proofs.even_step.Goals as goal

pub step-u-requires : goal.step-u-requires
unfolding lsh256 expanded_words
step-u-requires c = let size : length c.expand_row.new.m ≡ 448 = ap length c.expand_row.ensures ∙ (simp length-sets) ∙ c.requires.3 in
    (c.constants-c.ensures, c.requires.1, c.shifts.ensures, omega arith)

pub returns-then-j-eq0 : goal.returns-then-j-eq0
unfolding lsh256 expanded_words
returns-then-j-eq0 c = (λ m₀ u h. ahead_more _ _ h (omega (arith, h.len)) c.expand_row.ensures c.step-u.ensures, omega arith)

pub returns-else-j-eq0 : goal.returns-else-j-eq0
unfolding lsh256 expanded_words
returns-else-j-eq0 c = (λ m₀ u h. h, omega arith)

pub expand_row-requires : goal.expand_row-requires
unfolding lsh256 expanded_words
expand_row-requires c = omega arith

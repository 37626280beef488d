use mathlib.Core.Path.{◌≡◌, refl, ap, ◌∙◌}
use Prim.Native.Nat.{◌%◌}
use native.Mathlib.Omega.{arith}
use lib.ListN.{length}
use lib.Seq.{length-sets}
use Rattle.lsh.specs.WordSize.{lsh256}
use Rattle.loops.specs.Rows.{expanded_words}
use Rattle.loops.proofs.Ahead.{ahead_more}
use Rattle.groups256.proofs.odd_steps.Goals as goal

pub loop-count-init : goal.loop-count-init
unfolding lsh256 expanded_words
loop-count-init c = (λ n u h. h, refl, omega arith, omega arith, omega arith)

pub constants-c-requires : goal.constants-c-requires
unfolding lsh256 expanded_words
constants-c-requires c = (c.requires.0, omega arith)

pub expand_row-requires : goal.expand_row-requires
unfolding lsh256 expanded_words
expand_row-requires c = omega (arith, c.loop-count.invariant.1)

pub step-u-requires : goal.step-u-requires
unfolding lsh256 expanded_words
step-u-requires c = let size : length c.expand_row.new.m ≡ 448 = ap length c.expand_row.ensures ∙ (simp length-sets) ∙ c.loop-count.invariant.1 ∙ c.requires.4 in
    (c.constants-c.ensures, c.requires.1, c.shifts.ensures, omega arith)

pub loop-count-preserved : goal.loop-count-preserved
unfolding lsh256 expanded_words
loop-count-preserved c = let odd : c.loop-count.count % 2 ≡ 1 = c.if-count-eq1.true in (
  λ n u h. ahead_more _ _ (c.loop-count.invariant.0 n u h) (omega (arith, h.len)) c.expand_row.ensures c.step-u.ensures,
  ap length c.expand_row.ensures ∙ (simp length-sets) ∙ c.loop-count.invariant.1,
  omega arith,
  omega arith,
  omega arith,
)

pub returns-else-count-eq1 : goal.returns-else-count-eq1
unfolding lsh256 expanded_words
returns-else-count-eq1 c = (c.loop-count.invariant.0, omega (arith, c.if-count-eq1.false))

pub returns-after-loop-count : goal.returns-after-loop-count
unfolding lsh256 expanded_words
returns-after-loop-count c = (c.loop-count.invariant.0, omega arith)

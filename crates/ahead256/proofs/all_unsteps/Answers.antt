use mathlib.Core.Path.{◌≡◌, sym, ap, ◌∙◌}
use mathlib.Core.List.{List}
use Prim.Native.Nat.{ℕ, ◌+◌, ◌-◌}
use native.Mathlib.Nat.{sub-zero}
use native.Mathlib.Omega.{arith}
use Rattle.lsh.specs.WordSize.{lsh256}
use Rattle.lsh.specs.Step.{unstep}
use Rattle.lsh.specs.Expansion.{next_sub_message}
use Rattle.lsh.specs.Block.{unsteps}
use Rattle.loops.specs.Rows.{expanded_words, row}
use Rattle.loops.proofs.Halves.{kept-none, kept_more, half-kept, length-next, from_more, from-up_to, unstepped-from, unstepped-last}
use Rattle.mix256.specs.Amounts.{shifts}
use Rattle.mix256.proofs.Amounts.{shifts-two}
use Rattle.ahead256.proofs.all_unsteps.Goals as goal

pub loop-i-init : goal.loop-i-init
unfolding lsh256 expanded_words
loop-i-init c = let none : c.args.steps - 0 ≡ c.args.steps = sub-zero c.args.steps in (
  kept-none _ _ _,
  λ b e. ap (λ (j : ℕ). unsteps lsh256 b j c.args.t) none,
  λ b e. e,
  c.shifts-x.ensures ∙ ap (λ (j : ℕ). shifts lsh256 (j + 1)) (sym none),
  omega arith,
)

pub constants-c-requires : goal.constants-c-requires
unfolding lsh256 expanded_words
constants-c-requires c = (c.requires.0, omega arith)

pub sub_message-requires : goal.sub_message-requires
unfolding lsh256 expanded_words
sub_message-requires c = omega (arith, c.loop-i.invariant.0.len)

pub unstep-u-requires : goal.unstep-u-requires
unfolding lsh256 expanded_words
unstep-u-requires c = let j : ℕ = c.args.steps - 1 - c.loop-i.i in
    let back : c.args.steps - c.loop-i.i + 1 ≡ j + 1 + 1 = omega arith in
    (c.constants-c.ensures, c.requires.1, c.loop-i.invariant.3 ∙ ap (shifts lsh256) back ∙ shifts-two lsh256 j)

pub expand_row-requires : goal.expand_row-requires
unfolding lsh256 expanded_words
expand_row-requires c = omega (arith, c.loop-i.invariant.0.len)

pub loop-i-preserved : goal.loop-i-preserved
unfolding lsh256 expanded_words
loop-i-preserved c = let i : ℕ = c.loop-i.i in
    let j : ℕ = c.args.steps - 1 - i in
    let now : c.args.steps - i ≡ j + 1 = omega arith in
    let then : c.args.steps - (i + 1) ≡ j = omega arith in
    let back : c.args.steps - i + 1 ≡ j + 1 + 1 = omega arith in (
      kept_more (next_sub_message lsh256 (row c.loop-i.m (c.args.n + i + 1)) (row c.loop-i.m (c.args.n + i))) (c.args.n + i + 2) c.loop-i.invariant.0 c.expand_row.ensures (length-next lsh256 _ _) (omega arith) (omega arith),
      λ b e.
          unstepped-from j c.loop-i.r (half-kept c.requires.3 c.requires.4 (omega arith) e c.loop-i.invariant.0) (omega arith) then
          (ap (λ (l : ℕ). unsteps lsh256 b l c.loop-i.r) (sym now) ∙ c.loop-i.invariant.1 b e)
          (c.unstep-u.ensures ∙ ap (λ (q : List ℕ). unstep lsh256 j q c.loop-i.r) c.sub_message.ensures),
      λ b e. from_more i (c.loop-i.invariant.2 b e) (omega (arith, c.loop-i.invariant.0.len)) c.expand_row.ensures,
      c.next_shifts-y.ensures j (c.loop-i.invariant.3 ∙ ap (shifts lsh256) back ∙ shifts-two lsh256 j) ∙ ap (λ (l : ℕ). shifts lsh256 (l + 1)) (sym then),
      omega arith,
    )

pub shape_of-m : goal.shape_of-m
unfolding lsh256 expanded_words
shape_of-m c = c.loop-i.invariant.0.len

pub returns : goal.returns
unfolding lsh256 expanded_words
returns c = let none : c.args.steps - c.loop-i.i ≡ 0 = omega arith in (
  c.loop-i.invariant.0,
  λ b e. unstepped-last lsh256 b _ none (c.loop-i.invariant.1 b e),
  λ b e. from-up_to (c.loop-i.invariant.2 b e) (omega arith),
)

pub overflow_add-k : goal.overflow_add-k
unfolding lsh256 expanded_words
overflow_add-k c = omega arith

pub overflow_add-n : goal.overflow_add-n
unfolding lsh256 expanded_words
overflow_add-n c = omega arith

use mathlib.Core.Path.{◌≡◌, sym, ap, ◌∙◌}
use Prim.Native.Nat.{ℕ, ◌+◌, ◌-◌}
use native.Mathlib.Omega.{arith}
use Rattle.lsh.specs.WordSize.{lsh256}
use Rattle.loops.specs.Rows.{expanded_words}
use Rattle.loops.proofs.Turns.{unstepped-is, unstepped-one}
use Rattle.mix256.specs.Amounts.{shifts}
use Rattle.mix256.proofs.Amounts.{shifts-two}
use Rattle.groups256.proofs.all_unsteps.Goals as goal

pub loop-j-init : goal.loop-j-init
unfolding lsh256 expanded_words
loop-j-init c = (λ t h. h, c.shifts-k.ensures, omega arith)

pub constants-c-requires : goal.constants-c-requires
unfolding lsh256 expanded_words
constants-c-requires c = (c.requires.0, omega arith)

pub sub_message-requires : goal.sub_message-requires
unfolding lsh256 expanded_words
sub_message-requires c = omega (arith, c.requires.2)

pub unstep-u-requires : goal.unstep-u-requires
unfolding lsh256 expanded_words
unstep-u-requires c = let back : c.loop-j.j - 1 + 1 + 1 ≡ c.loop-j.j + 1 = omega arith in
    (c.constants-c.ensures, c.requires.1, c.loop-j.invariant.1 ∙ ap (shifts lsh256) (sym back) ∙ shifts-two lsh256 (c.loop-j.j - 1))

pub loop-j-preserved : goal.loop-j-preserved
unfolding lsh256 expanded_words
loop-j-preserved c = let j : ℕ = c.loop-j.j - 1 in
    let next : j + 1 ≡ c.loop-j.j = omega arith in
    let back : j + 1 + 1 ≡ c.loop-j.j + 1 = omega arith in (
      λ t h. unstepped-one (unstepped-is (c.loop-j.invariant.0 t h) (sym next)) (omega arith) c.sub_message.ensures c.unstep-u.ensures,
      c.next_shifts-n.ensures j (c.loop-j.invariant.1 ∙ ap (shifts lsh256) (sym back) ∙ shifts-two lsh256 j),
      omega arith,
    )

pub returns : goal.returns
unfolding lsh256 expanded_words
returns c = λ u h. unstepped-is (c.loop-j.invariant.0 u h) (omega arith)

pub overflow_add-steps : goal.overflow_add-steps
unfolding lsh256 expanded_words
overflow_add-steps c = omega arith

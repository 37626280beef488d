use mathlib.Core.Path.{◌≡◌, sym, ap, ◌∙◌}
use mathlib.Core.Bool.{true, false}
use mathlib.Core.List.{List}
use Prim.Native.Nat.{ℕ, suc, ◌+◌, ◌-◌}
use native.Mathlib.Numerals.{add-one}
use native.Mathlib.Omega.{arith}
use Rattle.lsh.specs.Tabulate.{at}
use Rattle.checkpoints.specs.Members.{member}
use Rattle.checkpoints.specs.FreeSlot.{first_free, free_slot}
use Rattle.roll.proofs.Walked.{unmarked, marked-is}
use Rattle.roll.proofs.free_slot.Goals as goal

turn : (i n : ℕ) (linked : List ℕ) → member i linked ≡ true → first_free i (suc n) linked ≡ first_free (i + 1) n linked
turn i n linked e = rw (e, add-one i)

found : (i n : ℕ) (linked : List ℕ) → member i linked ≡ false → first_free i (suc n) linked ≡ i
found i n linked e = rw e

pub loop-i-init : goal.loop-i-init
unfolding free_slot
loop-i-init c linked is = let e : c.args.k + 1 - 1 ≡ c.args.k = omega arith in ap (λ (n : ℕ). first_free 1 n linked) (sym e)

pub returns-then-marks-i-eq0 : goal.returns-then-marks-i-eq0
unfolding free_slot
returns-then-marks-i-eq0 c linked is = let k : ℕ = c.args.k in
    let i : ℕ = c.loop-i.i in
    let n : k + 1 - i ≡ suc (k - i) = omega arith in
    let clear : member i linked ≡ false =
    unmarked linked i (omega arith) (ap (λ (m : List ℕ). at m i) (sym is) ∙ c.if-marks-i-eq0.true) in
    sym (c.loop-i.invariant linked is ∙ ap (λ (j : ℕ). first_free i j linked) n ∙ found i (k - i) linked clear)

pub loop-i-preserved : goal.loop-i-preserved
unfolding free_slot
loop-i-preserved c linked is = let k : ℕ = c.args.k in
    let i : ℕ = c.loop-i.i in
    let n : k + 1 - i ≡ suc (k - i) = omega arith in
    let r : k - i ≡ k + 1 - (i + 1) = omega arith in
    let there : member i linked ≡ true =
    marked-is linked i (omega arith) (λ e. c.if-marks-i-eq0.false (ap (λ (m : List ℕ). at m i) is ∙ e)) in
    c.loop-i.invariant linked is ∙ ap (λ (j : ℕ). first_free i j linked) n ∙ turn i (k - i) linked there ∙ ap (λ (j : ℕ). first_free (i + 1) j linked) r

pub returns : goal.returns
unfolding free_slot
returns c linked is = let k : ℕ = c.args.k in
    let i : ℕ = c.loop-i.i in
    let at-end : i ≡ k + 1 = omega arith in
    let n : k + 1 - i ≡ 0 = omega arith in
    sym (c.loop-i.invariant linked is ∙ ap (λ (j : ℕ). first_free i j linked) n ∙ at-end)

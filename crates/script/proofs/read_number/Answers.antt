use mathlib.Core.Path.{sym, ◌∙◌}
use native.Mathlib.Omega.{arith}
use Rattle.script.proofs.Reading.{number-empty, number-some, number-large, number-all}
use Rattle.script.proofs.read_number.Goals as goal

pub returns-then-is_empty : goal.returns-then-is_empty
returns-then-is_empty c = number-empty c.args.word.now (sym c.is_empty.ensures ∙ c.if-is_empty.true)

pub loop-c-init : goal.loop-c-init
loop-c-init c = (number-some c.args.word.now (sym c.is_empty.ensures ∙ c.if-is_empty.false), omega arith)

pub returns-in_err-checked_mul : goal.returns-in_err-checked_mul
returns-in_err-checked_mul c =
    c.from_residual.ensures
    ∙ number-large c.args.word.now c.loop-c.c-index c.loop-c.x c.loop-c.invariant.0 c.loop-c-test.true
    (sym c.is_ascii_digit.ensures.value ∙ c.if-not-is_ascii_digit.false)
    (omega (arith, c.in_err-checked_mul.ensures))

pub returns-in_err-x : goal.returns-in_err-x
returns-in_err-x c =
    c.from_residual-in_err-x.ensures
    ∙ number-large c.args.word.now c.loop-c.c-index c.loop-c.x c.loop-c.invariant.0 c.loop-c-test.true
    (sym c.is_ascii_digit.ensures.value ∙ c.if-not-is_ascii_digit.false)
    (omega (arith, c.in_ok-checked_mul.ensures, c.from.ensures, c.in_err-x.ensures))

pub returns : goal.returns
returns c = number-all c.args.word.now c.loop-c.c-index c.loop-c.x c.loop-c.invariant.0 (omega arith) c.loop-c.invariant.1

use mathlib.Core.Path.{refl, ◌∙◌}
use native.Mathlib.Omega.{arith}
use Rattle.loops.proofs.Places.{stored-all}
use Rattle.text.specs.Printed.{digits_of}
use Rattle.text.proofs.Printing.{high-digit, low-digit, two-more}
use Rattle.text.proofs.put_digits.Goals as goal

pub loop-i-preserved : goal.loop-i-preserved
loop-i-preserved c =
    two-more c.args.from c.loop-i.i _ _ c.loop-i.invariant (omega arith) (omega arith)
    (c.hex_digit.ensures ∙ high-digit c.args.bytes.now c.loop-i.i)
    (c.hex_digit-in-loop-i.ensures ∙ low-digit c.args.bytes.now c.loop-i.i)

pub returns : goal.returns
unfolding digits_of
returns c = (refl, stored-all c.args.from c.loop-i.invariant (omega arith) (omega arith))

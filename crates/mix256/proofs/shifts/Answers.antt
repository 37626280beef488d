use Rattle.mix256.proofs.Amounts.{even-shifts, odd-shifts}
use native.Mathlib.Omega.{arith}
use Rattle.mix256.proofs.shifts.Goals as goal

pub returns-then-j-eq0 : goal.returns-then-j-eq0
returns-then-j-eq0 c = even-shifts _ c.if-j-eq0.true

pub returns : goal.returns
returns c = odd-shifts _ (omega arith)

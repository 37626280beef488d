use Rattle.receipts.proofs.Counting.{Counted}
use Rattle.tally.proofs.count.Given as goal

abbrev pub invariant-loop-i : goal.invariant-loop-i
invariant-loop-i l = Counted l.list l.firsts l.reprints l.blanks l.i

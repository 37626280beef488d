use Rattle.receipts.proofs.Malformed.{Searched}
use Rattle.tally.proofs.first_malformed.Given as goal

abbrev pub invariant-loop-i : goal.invariant-loop-i
invariant-loop-i l = Searched l.list l.i

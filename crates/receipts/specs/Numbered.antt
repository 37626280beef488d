-- What Same and Tally answer, with the number that C gets.
-- Assumes nothing.
use Rattle.std.specs.Prelude.{Bool, false, Result, Ok, Err}
use Rattle.answers.specs.declared.Refusal.{Refusal}
use Rattle.answers.specs.Refusal.{number}
use Rattle.receipts.specs.declared.Sameness.{Sameness}
use Rattle.receipts.specs.declared.Kinds.{Kinds}
use Rattle.receipts.specs.declared.TallyRefusal.{TallyRefusal}
use Rattle.receipts.specs.declared.TallyRefusal.TheVariants.{NoReceipts, Malformed}
use Rattle.receipts.specs.declared.Counts.{Counts}
use Rattle.receipts.specs.Tally.{refused_tally}

-- a refused call says that two receipts are not the same
abbrev pub sameness : Result Bool Refusal → Sameness
sameness (Ok same) = record { number = 0; same = same }
sameness (Err refusal) = record { number = number refusal; same = false }

-- a refused tally has the place of a malformed receipt, or 0, and counts none
abbrev pub counts : Result Kinds TallyRefusal → Counts
counts (Ok kinds) = record { number = 0; place = 0; firsts = kinds.firsts; reprints = kinds.reprints; blanks = kinds.blanks }
counts (Err NoReceipts) = refused_tally 13 0
counts (Err (Malformed place)) = refused_tally 14 place

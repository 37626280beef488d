-- The numbers of the answers: 0 of an accepted call, and one for each reason to refuse.
-- Assumes nothing.
use Rattle.std.specs.Prelude.{ℕ, Result, Ok, Err}
use Rattle.answers.specs.declared.Refusal.{Refusal}
use Rattle.answers.specs.declared.Refusal.TheVariants.{BadWordSize, BadDigestLength, UnsoundRecord, BadLength, TooLong, BadStart, BadKeep, HeldDiffer, OpeningDiffers, BadExtraBits, BadLastByte, ShortOutput, NoReceipts, Malformed, BadRoll, FullRoll, OutOfTurn, NoWholeBytes}

-- the number of a refusal
abbrev pub number : Refusal → ℕ
number BadWordSize = 1
number BadDigestLength = 2
number UnsoundRecord = 3
number BadLength = 4
number TooLong = 5
number BadStart = 6
number BadKeep = 7
number HeldDiffer = 8
number OpeningDiffers = 9
number BadExtraBits = 10
number BadLastByte = 11
number ShortOutput = 12
number NoReceipts = 13
number Malformed = 14
number BadRoll = 15
number FullRoll = 16
number OutOfTurn = 17
number NoWholeBytes = 18

-- the number of the answer: 0 where the call is accepted, whatever it gives then
abbrev pub answer_of : {A : Type 0} → Result A Refusal → ℕ
answer_of (Ok _) = 0
answer_of (Err refusal) = number refusal

-- Laws of receipts, of Whole and Close, of Same, and of Tally.
pub mod FinalBytes
pub mod Receipts
pub mod Ending
pub mod WholeAnswers
pub mod Asked
pub mod CloseAnswers
pub mod Formed
pub mod Agreement
pub mod Written
pub mod Places
pub mod Malformed
pub mod Blanks
pub mod Counting
pub mod TallyAnswers
pub mod AnyOrder
pub mod Totals

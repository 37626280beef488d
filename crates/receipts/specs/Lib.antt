-- Receipts and the tally: what a receipt has, the calls that write one, when two are the same, and a list of them counted.
pub mod Receipt
pub mod Ending
pub mod Whole
pub mod Asked
pub mod Close
pub mod Parts
pub mod WellFormed
pub mod Same
pub mod Written
pub mod Kinds
pub mod Tally
pub mod Numbered

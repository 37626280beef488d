-- Laws of the receipts of a list.
pub mod Sums

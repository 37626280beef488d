-- Laws of Append.
pub mod Appending

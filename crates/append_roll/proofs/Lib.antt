-- Laws of Append with a roll, made in parts.
pub mod Parts

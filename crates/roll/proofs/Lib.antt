-- Laws of the code's loops.
pub mod Sizes
pub mod Walked

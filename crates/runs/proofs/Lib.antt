pub mod Sizes
pub mod Rest

pub mod Sizes
pub mod Stores

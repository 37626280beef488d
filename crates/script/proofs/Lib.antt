pub mod Lines
pub mod Reading
pub mod Chains
pub mod Parts

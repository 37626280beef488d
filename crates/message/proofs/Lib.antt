pub mod Bits
pub mod Back
pub mod Padded
pub mod Digest

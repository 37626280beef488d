pub mod First
pub mod Output
pub mod Refusal

pub mod Numbers
pub mod Own

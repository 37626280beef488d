pub mod Answers
pub mod Undone

-- Laws of answers and of outputs.
pub mod Tests
pub mod First
pub mod Output
pub mod Numbers

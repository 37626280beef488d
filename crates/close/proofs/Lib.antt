-- Laws of Close.
pub mod HeldBytes
pub mod Closed

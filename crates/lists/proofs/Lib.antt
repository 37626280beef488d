-- Laws of lists: compared, tested number by number, filled with zeros, and of their elements.
pub mod Equal
pub mod Zeros
pub mod Lists
pub mod Counting
pub mod Repeats
pub mod Different

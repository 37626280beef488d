-- Lists of numbers compared, tested and filled; elements of a list, counted.
pub mod Equal
pub mod Lists
pub mod ZeroFilled
pub mod Elements
pub mod Choice

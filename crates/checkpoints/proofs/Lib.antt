-- Laws of rolls, and of the calls with a roll.
pub mod Due
pub mod Members
pub mod Traversals
pub mod Places
pub mod Writes
pub mod Form
pub mod Shown
pub mod Spacing
pub mod InTurn
pub mod AppendAnswers
pub mod ChainAt
pub mod AppendShows
pub mod Empty
pub mod Rewinding

-- Laws of the record and of the calls that change it.
pub mod Sound
pub mod Begun
pub mod Held
pub mod Strings
pub mod InTurn
pub mod AfterPiece
pub mod AppendedSound
pub mod Joins
pub mod Empty
pub mod Pieces
pub mod Lengths
pub mod Reached
pub mod HandBacks
pub mod Counts
pub mod OneRewind

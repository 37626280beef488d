-- In the order of W1: checkpoints and their numbers, the bytes of a roll, its links, the checkpoints that it shows, checkpoints inserted and unlinked,
-- and the calls with a roll.
pub mod Due
pub mod Slots
pub mod Members
pub mod Roll
pub mod FreeSlot
pub mod Checkpoints
pub mod AppendRoll
pub mod RewindRoll
pub mod EndRoll

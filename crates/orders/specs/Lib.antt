-- The record of an order, and the calls that change it, in the order of document 01 and of W6: Open, Append, Rewind, and a rewind in steps.
pub mod Split
pub mod Record
pub mod Arrays
pub mod Step
pub mod Open
pub mod Turn
pub mod Append
pub mod Pieces
pub mod Rewind
pub mod OnlyChain
pub mod Begin
pub mod HandBack
pub mod End
pub mod Abandon
pub mod OneRewind

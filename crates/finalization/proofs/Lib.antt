pub mod LastByte
pub mod LastBlock
pub mod MessageChain

-- In the order of document 001, section 2: words, figures and tables; a step and a block; the opening chain; the hash of a message. Last the bench checks of
-- document 01.
pub mod Tabulate
pub mod Word
pub mod WordSize
pub mod StepConstants
pub mod Bytes
pub mod ByteString
pub mod Lane
pub mod Step
pub mod Expansion
pub mod Block
pub mod Opening
pub mod Bits
pub mod Padding
pub mod Chains
pub mod Hash
pub mod Bench

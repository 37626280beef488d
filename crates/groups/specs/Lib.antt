-- The second engine of section 5.1 of the paper, in its order: groups of four words and the operations on them; a chain in groups, and a step; a block; blocks on
-- either engine.
pub mod Group
pub mod GroupStep
pub mod GroupBlock
pub mod Engines

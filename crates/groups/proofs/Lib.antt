pub mod Parts
pub mod Engine

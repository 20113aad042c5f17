pub mod Blocks
pub mod Operations
pub mod Parts
pub mod Legal
pub mod Inner

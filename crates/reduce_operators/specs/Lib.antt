pub mod Inner
pub mod Operators
pub mod Limits

pub mod Order
pub mod Goals
pub mod Levels
pub mod Matching
pub mod Giving

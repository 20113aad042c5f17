pub mod Packed
pub mod Levels
pub mod Earlier
pub mod Runs
pub mod Sums
pub mod Examples
pub mod Laws
pub mod Cases

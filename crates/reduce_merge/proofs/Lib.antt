pub mod Agreeing
pub mod Containing
pub mod Linear
pub mod Prefixes
pub mod Turns
pub mod Walks
pub mod Writing

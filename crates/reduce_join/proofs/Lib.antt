pub mod Splices
pub mod Operands
pub mod Turns
pub mod Joined

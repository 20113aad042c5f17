pub mod Evaluated
pub mod Standing
pub mod Holding
pub mod Giving

pub mod Faults
pub mod Operations
pub mod Laws
pub mod Inner

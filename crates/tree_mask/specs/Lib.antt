pub mod Mask
pub mod Operations
pub mod Agreement
pub mod Laws
pub mod Inner

pub mod Operations
pub mod Inner

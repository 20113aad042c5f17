pub mod Plans
pub mod Operations
pub mod Answers
pub mod Laws
pub mod Inner

pub mod Nodes
pub mod Operations
pub mod Answers
pub mod Laws

pub mod Sets
pub mod Cards
pub mod Refusals
pub mod Trees

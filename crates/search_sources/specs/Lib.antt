pub mod Inner
pub mod Trees
pub mod Sources
pub mod Operations

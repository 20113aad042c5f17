pub mod Code
pub mod Typing
pub mod Syntax
pub mod Operations
pub mod Inner

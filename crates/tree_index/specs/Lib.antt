pub mod Spans
pub mod Operations
pub mod Inner

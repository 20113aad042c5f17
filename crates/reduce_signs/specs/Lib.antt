pub mod Evaluation
pub mod Inner

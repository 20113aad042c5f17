pub mod Terms
pub mod Pack
pub mod Inner

pub mod Display
pub mod Inner

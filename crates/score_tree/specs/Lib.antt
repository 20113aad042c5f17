pub mod Figures
pub mod LoadTable
pub mod Linear
pub mod Operations
pub mod Inner

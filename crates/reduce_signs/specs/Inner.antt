pub mod Sorts
pub mod Forms
pub mod Values

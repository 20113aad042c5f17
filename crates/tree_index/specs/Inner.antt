pub mod Lying
pub mod Marking
pub mod Comparing
pub mod Starts

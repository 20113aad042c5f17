pub mod Choosing
pub mod Putting

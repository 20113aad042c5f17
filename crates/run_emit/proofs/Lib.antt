pub mod Ends
pub mod Puts
pub mod Rows
pub mod Skips

pub mod Rows
pub mod Masking

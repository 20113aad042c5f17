pub mod Found
pub mod Wrapping
pub mod Listing

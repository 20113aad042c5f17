pub mod Texts
pub mod Values
pub mod Opened
pub mod Searches
pub mod Dropped
pub mod Edits

pub mod Files
pub mod Texts
pub mod Values
pub mod Searches
pub mod Edits

pub mod Replacing
pub mod Entries
pub mod Planning
pub mod Carded
pub mod Sound

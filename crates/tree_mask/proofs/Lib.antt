pub mod Masks
pub mod Rows
pub mod Answers
pub mod Laws
pub mod Examples
pub mod Walks

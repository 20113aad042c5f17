pub mod Memory
pub mod Setting
pub mod Ends
pub mod Clauses
pub mod Searching

pub mod Ready
pub mod Tests
pub mod Matching

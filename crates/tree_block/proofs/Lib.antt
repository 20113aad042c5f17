pub mod Reaching
pub mod Steps
pub mod Paths
pub mod Answers
pub mod Legal

pub mod Puts
pub mod Places
pub mod Joins
pub mod Answering
pub mod Linear
pub mod Theorems

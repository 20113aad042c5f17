pub mod Copying
pub mod Unknown

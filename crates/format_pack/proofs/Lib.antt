pub mod TermCodec
pub mod PackCodec
pub mod ByPlace
pub mod Passes
pub mod Standing
pub mod Levels
pub mod Readings

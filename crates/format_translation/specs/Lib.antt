pub mod Translation
pub mod Running
pub mod WellFormed
pub mod TranslationFile
pub mod Plain
pub mod Operations
pub mod Inner

pub mod Ranges
pub mod Language
pub mod LanguageFile
pub mod Operations
pub mod Inner

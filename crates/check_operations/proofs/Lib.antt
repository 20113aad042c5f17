pub mod Opening
pub mod TreeChain
pub mod TranslationChain
pub mod Legal
pub mod Reading
pub mod Answering

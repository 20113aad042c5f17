pub mod Clauses
pub mod Finding
pub mod Hinting
pub mod Itemed
pub mod Spans
pub mod Standing
pub mod Tables

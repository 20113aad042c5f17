-- What the inner contracts cite.
pub mod Exporting
pub mod Measuring
pub mod Answering

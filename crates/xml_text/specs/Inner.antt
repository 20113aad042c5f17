-- What the inner contracts cite.
pub mod Scanning
pub mod Importing
pub mod Contents

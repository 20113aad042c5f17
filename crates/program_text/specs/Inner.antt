-- What the inner contracts cite.
pub mod Putting

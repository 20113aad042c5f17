-- What the inner contracts cite.
pub mod Showing

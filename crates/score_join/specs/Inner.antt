-- Definitions in the shape of the code. The contracts open to callers cite those of the file above.
pub mod Loading

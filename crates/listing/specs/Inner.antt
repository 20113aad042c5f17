-- Definitions by position, in the shape of the code.
pub mod Walk

-- Definitions by position, in the shape of the code. The contracts open to callers cite those of the files above.
pub mod Positions
pub mod Index
pub mod Ends

-- Definitions by position, in the shape of the code. The contracts open to callers cite those of the files above.
pub mod Results
pub mod Kept
pub mod Sums
pub mod Terms
pub mod Spreads
pub mod Walks
pub mod Answering

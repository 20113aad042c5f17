-- What a run looks things up in, what stands where, and what filling asks and gives.
pub mod Table
pub mod Stands
pub mod Filling

pub mod Plans
pub mod Ends
pub mod Operations
pub mod Laws

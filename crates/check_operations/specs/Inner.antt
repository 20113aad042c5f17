pub mod Opening
pub mod Chains
pub mod Answering

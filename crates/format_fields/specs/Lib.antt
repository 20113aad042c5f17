pub mod Lists
pub mod Fields
pub mod Keyed
pub mod Decimal
pub mod Inner

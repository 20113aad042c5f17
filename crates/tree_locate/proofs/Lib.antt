pub mod Agreement
pub mod Walks
pub mod Answers
pub mod Local
pub mod Laws

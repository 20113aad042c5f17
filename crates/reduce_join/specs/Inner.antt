-- What the join on bytes knows of two translations, and what it puts out.
pub mod Joining

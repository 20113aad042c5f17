-- What the functions of the run ask for and give.
pub mod Runs
pub mod Readings

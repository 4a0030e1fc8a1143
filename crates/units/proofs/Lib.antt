pub mod Fours
pub mod Begins

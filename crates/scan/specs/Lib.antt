pub mod Marks
pub mod Rounds

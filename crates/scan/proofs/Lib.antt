pub mod Marking
pub mod Adding

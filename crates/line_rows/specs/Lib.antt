pub mod Begins
pub mod Passing
pub mod Marks
pub mod Steps

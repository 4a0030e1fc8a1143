pub mod Own
pub mod Calls

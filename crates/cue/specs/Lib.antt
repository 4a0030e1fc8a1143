pub mod Kinds
pub mod Records
pub mod Places
pub mod Prints
pub mod Steps

pub mod Near
pub mod Sums
pub mod Places
pub mod Starts
pub mod Walks

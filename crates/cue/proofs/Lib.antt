pub mod Columns
pub mod Playing

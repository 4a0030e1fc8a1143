pub mod Rows
pub mod Loops
pub mod Digits
pub mod Moves
pub mod Packed
pub mod Sums

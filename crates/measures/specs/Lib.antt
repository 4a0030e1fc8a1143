pub mod Chars
pub mod Breaks
pub mod Counts
pub mod CharCells
pub mod Examples
pub mod Charring
pub mod Once
pub mod Lining

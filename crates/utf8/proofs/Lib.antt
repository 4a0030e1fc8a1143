pub mod Table
pub mod Sorted
pub mod Agrees
pub mod Chars
pub mod Texts
pub mod Means
pub mod Walk
pub mod Cuts

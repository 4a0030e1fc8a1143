pub mod Near
pub mod Cells
pub mod Starts
pub mod LineCells

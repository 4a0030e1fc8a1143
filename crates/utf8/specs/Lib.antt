pub mod Grammar
pub mod Places
pub mod Faults
pub mod FirstFault
pub mod Checks
pub mod Kinds
pub mod Steps
pub mod Examples

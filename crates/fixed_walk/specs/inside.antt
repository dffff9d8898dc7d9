pub mod Codes
pub mod From
pub mod LazyFixes

pub mod Distinct
pub mod Enter
pub mod Hashed
pub mod Traverse
pub mod Step
pub mod Index
pub mod Single

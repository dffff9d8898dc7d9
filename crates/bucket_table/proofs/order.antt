pub mod Change
pub mod Permute
pub mod Read
pub mod Remove

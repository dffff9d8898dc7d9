pub mod ChangeLaws
pub mod CountLaws
mod Examples
pub mod FromLaws
pub mod TombstoneLaws
pub mod KeptLaws
pub mod Subsequences
pub mod WalkLaws

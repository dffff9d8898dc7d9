pub mod Predicted
pub mod Counting
pub mod Trees

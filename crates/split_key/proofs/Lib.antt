pub mod Revs
pub mod Intervals
pub mod Parents
pub mod Halves

pub mod Agreement
pub mod Erasing
pub mod Growth
pub mod Kept
pub mod Outcomes
pub mod Reached
pub mod Runs
pub mod Walk

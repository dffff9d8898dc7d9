pub mod Observable
pub mod ObservableTables
pub mod Unobservable
pub mod Growing
pub mod Steps
pub mod Runs
pub mod Through

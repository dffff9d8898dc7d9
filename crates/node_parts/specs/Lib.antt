pub mod Parts
pub mod Room
pub mod Keyed
pub mod ForAll
pub mod Joined
pub mod Events
pub mod Laws

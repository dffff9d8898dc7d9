pub mod slots
pub mod list
pub mod order
pub mod directory
pub mod hints
pub mod sweep
pub mod Sent

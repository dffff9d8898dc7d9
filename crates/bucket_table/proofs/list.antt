pub mod Content
pub mod Passed
pub mod Length
pub mod Places
pub mod Change

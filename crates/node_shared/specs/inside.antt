pub mod Closing
pub mod Codes
pub mod Lines
pub mod Known
pub mod Steps
pub mod History
pub mod Seats

pub mod Codes
pub mod Names
pub mod Lending
pub mod Reading
pub mod Ending
pub mod Indices
pub mod States

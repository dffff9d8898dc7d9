pub mod Codes
pub mod Hash
pub mod WrittenFault

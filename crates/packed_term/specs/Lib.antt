pub mod Elements
pub mod Forms
pub mod Objects
pub mod Sizes

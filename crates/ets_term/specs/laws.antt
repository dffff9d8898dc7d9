pub mod Exact
pub mod Hashed
pub mod Ordered
pub mod Same
pub mod Viewed

pub mod SplitKeys
pub mod Segments
pub mod Placed
pub mod Search
pub mod Change
pub mod FirstUnready
pub mod New

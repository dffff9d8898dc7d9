pub mod Sweep
pub mod Order
pub mod Log
pub mod PurgeHash

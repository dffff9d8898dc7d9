pub mod Refusals
pub mod Fixes
pub mod TableState
pub mod Walk
pub mod Invariants
pub mod inside
pub mod laws

pub mod Codes
pub mod Counted
pub mod DeletePlan
pub mod Removal
pub mod SlotsLeft
pub mod TableRows
pub mod Undo
pub mod Updated

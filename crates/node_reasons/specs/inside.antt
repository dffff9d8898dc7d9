pub mod Advance
pub mod Forms
pub mod RefusalReasons
pub mod RefusalReasonsOfCalls

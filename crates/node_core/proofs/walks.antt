pub mod WholeWalks
pub mod WalkCalls
pub mod OwnCalls
pub mod OthersRuns
pub mod OthersSteps
pub mod Replying
pub mod Weaving
pub mod Answering
pub mod Turns
pub mod WalkEnds
pub mod WalkParts
mod Examples

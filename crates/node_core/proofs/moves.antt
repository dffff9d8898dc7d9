pub mod Moves
pub mod WorldMoves
pub mod WorldLaws
pub mod Preserves
pub mod EndKeys
pub mod Reached
pub mod Revealed

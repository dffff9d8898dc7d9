pub mod CompiledClauses
pub mod CompiledExpressions
pub mod CompiledPatterns
pub mod FirstPaths
pub mod Functions
pub mod QuickTests

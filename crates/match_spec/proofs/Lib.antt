mod Examples
pub mod BoolLaws
pub mod CallLaws
pub mod CompiledLaws
pub mod ExpressionLaws
pub mod FitLaws
pub mod KeyLaws
pub mod ListLaws
pub mod MatchLaws
pub mod NumberLaws
pub mod PartLaws
pub mod PathLaws
pub mod QuickLaws
pub mod SpecLaws
pub mod TreeLaws
pub mod ValueLaws
pub mod VariableLaws

pub mod DepthLaws
pub mod Examples
pub mod RefusalLaws
pub mod RestoreLaws
pub mod ValueLaws

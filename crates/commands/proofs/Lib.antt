pub mod ReplyLaws
pub mod SaveLaws

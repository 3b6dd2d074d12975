pub mod RestLaws
pub mod PrintLaws

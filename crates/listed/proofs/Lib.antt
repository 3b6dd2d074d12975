pub mod RestLaws
pub mod OpenLaws
